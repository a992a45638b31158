-- Its contract, by one law for each way out.
use Rattle.handler.proofs.ScanLaws.{scan_laws as laws}
use Rattle.handler.proofs.validation.scan_from.Goals as goal

pub loop-at-init : goal.loop-at-init
loop-at-init c = search laws

pub returns-in_default : goal.returns-in_default
returns-in_default c = search laws

pub slice_bounds-v-count : goal.slice_bounds-v-count
slice_bounds-v-count c = search laws

pub slice_bounds-v-start : goal.slice_bounds-v-start
slice_bounds-v-start c = search laws

pub slice_bounds-v-end : goal.slice_bounds-v-end
slice_bounds-v-end c = search laws

pub returns-then-not-admit : goal.returns-then-not-admit
returns-then-not-admit c = search laws

pub loop-at-smaller-then-tag-eq2 : goal.loop-at-smaller-then-tag-eq2
loop-at-smaller-then-tag-eq2 c = search laws

pub loop-at-preserved-then-tag-eq2 : goal.loop-at-preserved-then-tag-eq2
loop-at-preserved-then-tag-eq2 c = search laws

pub returns-then-is_err : goal.returns-then-is_err
returns-then-is_err c = search laws

pub loop-at-preserved : goal.loop-at-preserved
loop-at-preserved c = search laws

pub returns : goal.returns
returns c = search laws
