-- Its contract, by whether there is an area and what is read of it.
use Rattle.handler.proofs.TaskLaws.{at_egress_laws as laws}
use Rattle.handler.proofs.handling.at_egress.Goals as goal

pub returns-then-op_length-eq0 : goal.returns-then-op_length-eq0
returns-then-op_length-eq0 c = search laws

pub returns-in-Err : goal.returns-in-Err
returns-in-Err c = search laws
