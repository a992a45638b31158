-- Its contract: what is written behind the link header makes one write.
use Rattle.handler.proofs.StageLaws.{reply_laws as laws}
use Rattle.handler.proofs.reply.error_reply.Goals as goal

pub write_error-requires : goal.write_error-requires
write_error-requires c = search laws

pub returns : goal.returns
returns c = search laws
