-- Its contract. The invariant: what was met and written so far, with what the walk finds from here on, is what it finds in all.
use Rattle.handler.proofs.Walks.{walk_area_laws as laws}
use Rattle.handler.proofs.options.walk_area.Goals as goal

pub loop-c-init : goal.loop-c-init
loop-c-init c = search laws

pub returns-in_default : goal.returns-in_default
returns-in_default c = search laws

pub overflow_add-end : goal.overflow_add-end
overflow_add-end c = search laws

pub slice_bounds-put_words-end-in-loop-c : goal.slice_bounds-put_words-end-in-loop-c
slice_bounds-put_words-end-in-loop-c c = search laws

pub loop-c-smaller : goal.loop-c-smaller
loop-c-smaller c = search laws

pub loop-c-preserved : goal.loop-c-preserved
loop-c-preserved c = search laws

pub returns : goal.returns
returns c = search laws
