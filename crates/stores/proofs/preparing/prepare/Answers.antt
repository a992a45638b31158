-- Its contract, by one law of `settings_of` for each way out.
use Rattle.stores.proofs.PrepareLaws.{prepare_laws as laws}
use Rattle.stores.proofs.preparing.prepare.Goals as goal

pub returns-in_err-tag : goal.returns-in_err-tag
returns-in_err-tag c = search laws

pub slice_bounds-v-count : goal.slice_bounds-v-count
slice_bounds-v-count c = search laws

pub slice_bounds-v-start : goal.slice_bounds-v-start
slice_bounds-v-start c = search laws

pub slice_bounds-v-end : goal.slice_bounds-v-end
slice_bounds-v-end c = search laws

pub returns-then-not-opens : goal.returns-then-not-opens
returns-then-not-opens c = search laws

pub fill-requires : goal.fill-requires
fill-requires c = search laws

pub returns : goal.returns
returns c = search laws
