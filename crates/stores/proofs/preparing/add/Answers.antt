-- Its contract, by one law for each way out.
use Rattle.stores.proofs.PrepareLaws.{add_laws as laws}
use Rattle.stores.proofs.preparing.add.Goals as goal

pub returns-then-not-insert : goal.returns-then-not-insert
returns-then-not-insert c = search laws
