-- Its contract: no counter is at its greatest value.
use Rattle.counters.proofs.CountLaws.{one_more_laws as laws}
use Rattle.counters.proofs.Counters.count.Goals as goal

pub overflow_add-counter : goal.overflow_add-counter
overflow_add-counter c = search laws

pub overflow_add-self : goal.overflow_add-self
overflow_add-self c = search laws

pub returns : goal.returns
returns c = search laws
