-- Its contract, by one law for each need.
use Rattle.campus.proofs.QueueLaws.{put_waiting_laws as laws}
use Rattle.campus.proofs.running.put_waiting.Goals as goal

pub returns-in_default : goal.returns-in_default
returns-in_default c = search laws

pub put_slot-requires : goal.put_slot-requires
put_slot-requires c = search laws

pub returns : goal.returns
returns c = search laws
