-- Its contract, by arithmetic.
use Rattle.octets.proofs.Ends.{copy_laws as laws}
use Rattle.octets.proofs.copy.Goals as goal

pub returns-then-out-at : goal.returns-then-out-at
returns-then-out-at c = search laws

pub returns-then-out-at-2 : goal.returns-then-out-at-2
returns-then-out-at-2 c = search laws

pub returns : goal.returns
returns c = search laws
