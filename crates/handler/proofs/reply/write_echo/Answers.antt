-- Its contract: head and body are one write, by the law of the echo.
use Rattle.handler.proofs.Stages.{write_echo_laws as laws}
use Rattle.handler.proofs.reply.write_echo.Goals as goal

pub returns : goal.returns
returns c = search laws
