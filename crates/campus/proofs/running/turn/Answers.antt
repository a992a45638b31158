-- Its contract, by one law for each need.
use Rattle.campus.proofs.RunLaws.{turn_laws as laws}
use Rattle.campus.proofs.running.turn.Goals as goal

pub go_on-requires : goal.go_on-requires
go_on-requires c = search laws

pub returns : goal.returns
returns c = search laws
