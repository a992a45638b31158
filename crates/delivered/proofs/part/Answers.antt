-- Its contract: the range lies within the frame, or the part is empty.
use Rattle.delivered.proofs.PartLaws.{part_laws as laws}
use Rattle.delivered.proofs.part.Goals as goal

pub returns-in_default : goal.returns-in_default
returns-in_default c = search laws

pub returns : goal.returns
returns c = search laws
