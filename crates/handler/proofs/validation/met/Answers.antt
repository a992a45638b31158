-- Its contract. The invariant: whether the rank is among the records left is whether it is met.
use Rattle.handler.proofs.ValidationLaws.{met_laws as laws}
use Rattle.handler.proofs.validation.met.Goals as goal

pub returns-then-left-eq0 : goal.returns-then-left-eq0
returns-then-left-eq0 c = search laws

pub returns-in_default : goal.returns-in_default
returns-in_default c = search laws

pub slice_bounds-rank_at-count : goal.slice_bounds-rank_at-count
slice_bounds-rank_at-count c = search laws

pub slice_bounds-rank_at-start : goal.slice_bounds-rank_at-start
slice_bounds-rank_at-start c = search laws

pub slice_bounds-rank_at-end : goal.slice_bounds-rank_at-end
slice_bounds-rank_at-end c = search laws

pub returns-then-rank_at-rank : goal.returns-then-rank_at-rank
returns-then-rank_at-rank c = search laws

pub loop-at-smaller-else-rank_at-rank : goal.loop-at-smaller-else-rank_at-rank
loop-at-smaller-else-rank_at-rank c = search laws

pub loop-at-preserved-else-rank_at-rank : goal.loop-at-preserved-else-rank_at-rank
loop-at-preserved-else-rank_at-rank c = search laws

pub loop-at-smaller : goal.loop-at-smaller
loop-at-smaller c = search laws

pub loop-at-preserved : goal.loop-at-preserved
loop-at-preserved c = search laws

pub returns : goal.returns
returns c = search laws
