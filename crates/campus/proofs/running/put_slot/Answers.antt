-- Its contract: two copies, one behind the other, are one. One law for each need.
use Rattle.campus.proofs.QueueLaws.{put_slot_laws as laws}
use Rattle.campus.proofs.running.put_slot.Goals as goal

pub returns : goal.returns
returns c = search laws
