-- Its contract: head and body are one write.
use Rattle.handler.proofs.Stages.{write_error_laws as laws}
use Rattle.handler.proofs.reply.write_error.Goals as goal

pub returns : goal.returns
returns c = search laws
