-- Its contract, by the task.
use Rattle.handler.proofs.TaskLaws.{route_laws as laws}
use Rattle.handler.proofs.route.Goals as goal

pub transit-requires : goal.transit-requires
transit-requires g c = search laws

pub returns-in-Err : goal.returns-in-Err
returns-in-Err g c = search laws
