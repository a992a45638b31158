-- Its contract, by one law for each need.
use Rattle.campus.proofs.QueueLaws.{wait_laws as laws}
use Rattle.campus.proofs.running.wait.Goals as goal

pub put_waiting-requires : goal.put_waiting-requires
put_waiting-requires c = search laws

pub returns-then-writes_reply : goal.returns-then-writes_reply
returns-then-writes_reply c = search laws

pub returns-then-a-eq0 : goal.returns-then-a-eq0
returns-then-a-eq0 c = search laws

pub put_waiting-requires-2 : goal.put_waiting-requires-2
put_waiting-requires-2 c = search laws

pub returns : goal.returns
returns c = search laws
