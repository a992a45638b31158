-- Its contract, by one law for each need.
use Rattle.campus.proofs.QueueLaws.{next_of_laws as laws}
use Rattle.campus.proofs.running.next_of.Goals as goal

pub returns-in_default : goal.returns-in_default
returns-in_default c = search laws

pub copy_back-requires : goal.copy_back-requires
copy_back-requires c = search laws

pub returns : goal.returns
returns c = search laws
