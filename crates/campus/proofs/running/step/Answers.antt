-- Its contract, by one law for each need.
use Rattle.campus.proofs.RunLaws.{step_laws as laws}
use Rattle.campus.proofs.running.step.Goals as goal

pub enter-requires : goal.enter-requires
enter-requires c = search laws

pub returns : goal.returns
returns c = search laws
