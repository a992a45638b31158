-- Its contract, word by word.
use Rattle.stores.proofs.PrepareLaws.{open_laws as laws}
use Rattle.stores.proofs.preparing.open.Goals as goal

pub returns : goal.returns
returns c = search laws
