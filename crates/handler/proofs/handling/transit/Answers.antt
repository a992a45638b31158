-- Its contract, by one law for each way out.
use Rattle.handler.proofs.TaskLaws.{transit_laws as laws}
use Rattle.handler.proofs.handling.transit.Goals as goal

pub returns-in_default : goal.returns-in_default
returns-in_default c = search laws

pub returns-in-Err : goal.returns-in-Err
returns-in-Err c = search laws

pub returns-in-Ok : goal.returns-in-Ok
returns-in-Ok c = search laws
