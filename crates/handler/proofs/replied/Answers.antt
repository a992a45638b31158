-- Its contract, by the answer without the reply.
use Rattle.handler.proofs.TaskLaws.{reply_laws as laws}
use Rattle.handler.proofs.replied.Goals as goal

pub returns-then-not-asks_back : goal.returns-then-not-asks_back
returns-then-not-asks_back g c = search laws

pub returns-then-a : goal.returns-then-a
returns-then-a g c = search laws

pub returns-then-a-2 : goal.returns-then-a-2
returns-then-a-2 g c = search laws

pub returns : goal.returns
returns g c = search laws
