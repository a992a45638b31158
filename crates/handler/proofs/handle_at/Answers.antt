-- Its contract, by whether there is an area.
use Rattle.handler.proofs.TaskLaws.{handle_at_laws as laws}
use Rattle.handler.proofs.handle_at.Goals as goal

pub returns-then-is_to_us : goal.returns-then-is_to_us
returns-then-is_to_us g c = search laws

pub returns-then-op_length-eq0 : goal.returns-then-op_length-eq0
returns-then-op_length-eq0 g c = search laws
