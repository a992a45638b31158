-- Its contract: hints change nothing of what the words stand for.
use Rattle.stores.proofs.PrepareLaws.{fill_laws as laws}
use Rattle.stores.proofs.preparing.fill.Goals as goal

pub returns : goal.returns
returns c = search laws
