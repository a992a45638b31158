-- Its contract, by one law for each way out.
use Rattle.handler.proofs.TaskLaws.{local_laws as laws}
use Rattle.handler.proofs.not_forwarded.Goals as goal

pub returns-in-Dropped : goal.returns-in-Dropped
returns-in-Dropped g c = search laws

pub returns-in-Answered : goal.returns-in-Answered
returns-in-Answered g c = search laws

pub returns-in-Message : goal.returns-in-Message
returns-in-Message g c = search laws
