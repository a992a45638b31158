-- Its contract, by the tag.
use Rattle.stores.proofs.PrepareLaws.{extend_laws as laws}
use Rattle.stores.proofs.preparing.extend.Goals as goal

pub returns : goal.returns
returns c = search laws
