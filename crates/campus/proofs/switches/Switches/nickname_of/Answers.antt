-- Its contract, by one law for each need.
use Rattle.campus.proofs.RunLaws.{nickname_of_laws as laws}
use Rattle.campus.proofs.switches.Switches.nickname_of.Goals as goal

pub overflow_cast-result : goal.overflow_cast-result
overflow_cast-result c = search laws
