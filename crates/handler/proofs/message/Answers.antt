-- Its contract, by what is looked up for the ingress.
use Rattle.handler.proofs.TaskLaws.{back_laws as laws}
use Rattle.handler.proofs.message.Goals as goal

pub returns : goal.returns
returns g c = search laws
