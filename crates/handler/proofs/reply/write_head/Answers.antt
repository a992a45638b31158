-- Its contract: three writes, the last over the end of the second.
use Rattle.handler.proofs.Stages.{write_head_laws as laws}
use Rattle.handler.proofs.reply.write_head.Goals as goal

pub returns : goal.returns
returns c = search laws
