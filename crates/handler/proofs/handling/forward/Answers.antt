-- Its contract, by the next hop.
use Rattle.handler.proofs.TaskLaws.{forward_laws as laws}
use Rattle.handler.proofs.handling.forward.Goals as goal

pub returns-in_default : goal.returns-in_default
returns-in_default c = search laws

pub send_whole-requires : goal.send_whole-requires
send_whole-requires c = search laws

pub returns : goal.returns
returns c = search laws
