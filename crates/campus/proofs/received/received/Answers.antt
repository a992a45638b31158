-- Its contract, by what the frame is read as.
use Rattle.campus.proofs.RunLaws.{received_laws as laws}
use Rattle.campus.proofs.received.received.Goals as goal

pub returns-in_default : goal.returns-in_default
returns-in_default c = search laws

pub returns : goal.returns
returns c = search laws
