-- Its contract: the fields behind the first keep nickname and MAC.
use Rattle.handler.proofs.ScanLaws.{own_of_laws as laws}
use Rattle.handler.proofs.settings.own_of.Goals as goal

pub returns-in_default : goal.returns-in_default
returns-in_default c = search laws

pub slice_bounds-v-count : goal.slice_bounds-v-count
slice_bounds-v-count c = search laws

pub slice_bounds-v-start : goal.slice_bounds-v-start
slice_bounds-v-start c = search laws

pub slice_bounds-v-end : goal.slice_bounds-v-end
slice_bounds-v-end c = search laws

pub returns : goal.returns
returns c = search laws
