-- Its contract, by one law of `field_at` for each way out.
use Rattle.octets.proofs.WordLaws.{field_laws as laws}
use Rattle.octets.proofs.field_at.Goals as goal

pub returns-then-s-at : goal.returns-then-s-at
returns-then-s-at c = search laws

pub returns-then-left-lt3 : goal.returns-then-left-lt3
returns-then-left-lt3 c = search laws

pub returns-then-be64-eq-RECORD : goal.returns-then-be64-eq-RECORD
returns-then-be64-eq-RECORD c = search laws

pub returns-then-left-length : goal.returns-then-left-length
returns-then-left-length c = search laws

pub returns : goal.returns
returns c = search laws
