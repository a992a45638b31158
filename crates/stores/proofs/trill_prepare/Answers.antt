-- Its contract, by what was prepared in words of its own.
use Rattle.stores.proofs.PrepareLaws.{trill_prepare_laws as laws}
use Rattle.stores.proofs.trill_prepare.Goals as goal

pub returns-then-is_none : goal.returns-then-is_none
returns-then-is_none c = search laws

pub returns-then-store-lt164 : goal.returns-then-store-lt164
returns-then-store-lt164 c = search laws

pub copy_from_slice-requires : goal.copy_from_slice-requires
copy_from_slice-requires c = search laws

pub returns : goal.returns
returns c = search laws
