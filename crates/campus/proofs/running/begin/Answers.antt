-- Its contract, by one law for each need.
use Rattle.campus.proofs.RunLaws.{begin_laws as laws}
use Rattle.campus.proofs.running.begin.Goals as goal

pub returns : goal.returns
returns c = search laws
