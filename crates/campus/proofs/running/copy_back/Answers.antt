-- Its contract: two copies, one before the other, are one. One law for each need.
use Rattle.campus.proofs.QueueLaws.{copy_back_laws as laws}
use Rattle.campus.proofs.running.copy_back.Goals as goal

pub returns : goal.returns
returns c = search laws
