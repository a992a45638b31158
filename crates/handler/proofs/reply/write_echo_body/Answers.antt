-- Its contract: two writes within the first.
use Rattle.handler.proofs.Stages.{write_echo_body_laws as laws}
use Rattle.handler.proofs.reply.write_echo_body.Goals as goal

pub returns : goal.returns
returns c = search laws
