-- Its contract, by one law for each way out.
use Rattle.handler.proofs.StageLaws.{cited_laws as laws}
use Rattle.handler.proofs.reply.cited.Goals as goal

pub returns-then-frame-start-lt128 : goal.returns-then-frame-start-lt128
returns-then-frame-start-lt128 c = search laws

pub overflow_sub-start : goal.overflow_sub-start
overflow_sub-start c = search laws
