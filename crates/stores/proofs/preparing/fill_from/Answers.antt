-- Its contract. The invariant: the words stand for what was read, and the fields from `at` on decide as all do.
use Rattle.stores.proofs.PrepareLaws.{fill_from_laws as laws}
use Rattle.stores.proofs.preparing.fill_from.Goals as goal

pub returns-in_err-tag : goal.returns-in_err-tag
returns-in_err-tag c = search laws

pub slice_bounds-extend-count : goal.slice_bounds-extend-count
slice_bounds-extend-count c = search laws

pub slice_bounds-extend-start : goal.slice_bounds-extend-start
slice_bounds-extend-start c = search laws

pub slice_bounds-extend-end : goal.slice_bounds-extend-end
slice_bounds-extend-end c = search laws

pub returns-then-is_err : goal.returns-then-is_err
returns-then-is_err c = search laws

pub loop-at-smaller : goal.loop-at-smaller
loop-at-smaller c = search laws

pub loop-at-preserved : goal.loop-at-preserved
loop-at-preserved c = search laws

pub returns : goal.returns
returns c = search laws
