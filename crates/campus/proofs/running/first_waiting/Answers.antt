-- Its contract, by one law for each need.
use Rattle.campus.proofs.QueueLaws.{first_waiting_laws as laws}
use Rattle.campus.proofs.running.first_waiting.Goals as goal

pub returns-then-head-tail : goal.returns-then-head-tail
returns-then-head-tail c = search laws

pub overflow_mul-from : goal.overflow_mul-from
overflow_mul-from c = search laws

pub slice_bounds-slot-count : goal.slice_bounds-slot-count
slice_bounds-slot-count c = search laws

pub slice_bounds-slot-start : goal.slice_bounds-slot-start
slice_bounds-slot-start c = search laws

pub bounds-slot-0 : goal.bounds-slot-0
bounds-slot-0 c = search laws

pub slice_bounds-copy-end-2 : goal.slice_bounds-copy-end-2
slice_bounds-copy-end-2 c = search laws

pub overflow_add-result : goal.overflow_add-result
overflow_add-result c = search laws

pub returns : goal.returns
returns c = search laws
