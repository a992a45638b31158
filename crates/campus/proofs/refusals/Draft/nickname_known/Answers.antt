-- Its contract: the first starts are those of the switches.
use Rattle.campus.proofs.StoresLaws.{nickname_known_laws as laws}
use Rattle.campus.proofs.refusals.Draft.nickname_known.Goals as goal

pub returns : goal.returns
returns c = search laws
