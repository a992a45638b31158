-- Its contract: what is written behind the link header makes one write.
use Rattle.handler.proofs.StageLaws.{reply_laws as laws}
use Rattle.handler.proofs.reply.echo_reply.Goals as goal

pub write_echo-requires : goal.write_echo-requires
write_echo-requires c = search laws

pub returns : goal.returns
returns c = search laws
