-- Its contract, by one law for each way out.
use Rattle.stores.proofs.PrepareLaws.{store_open_laws as laws}
use Rattle.stores.proofs.store_open.Goals as goal

pub returns-then-store-lt4 : goal.returns-then-store-lt4
returns-then-store-lt4 c = search laws

pub returns-then-not-opens : goal.returns-then-not-opens
returns-then-not-opens c = search laws

pub returns : goal.returns
returns c = search laws
