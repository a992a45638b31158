-- Its contract, by the next hop back that was found.
use Rattle.handler.proofs.StageLaws.{error_answer_laws as laws}
use Rattle.handler.proofs.handling.error_answer.Goals as goal

pub returns-then-silenced : goal.returns-then-silenced
returns-then-silenced c = search laws

pub returns-in_default : goal.returns-in_default
returns-in_default c = search laws

pub returns : goal.returns
returns c = search laws
