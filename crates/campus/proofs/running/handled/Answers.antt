-- Its contract, by one law for each need.
use Rattle.campus.proofs.RunLaws.{handled_laws as laws}
use Rattle.campus.proofs.running.handled.Goals as goal

pub returns : goal.returns
returns c = search laws
