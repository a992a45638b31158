-- Its contract: the header, and the rest in one copy.
use Rattle.handler.proofs.Stages.{forward_laws as laws}
use Rattle.handler.proofs.forward.forward_whole.Goals as goal

pub returns : goal.returns
returns c = search laws
