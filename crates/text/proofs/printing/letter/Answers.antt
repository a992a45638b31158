-- Its contract, by the law of each case.
use Rattle.text.proofs.PrintLaws.{letter_laws as laws}
use Rattle.text.proofs.printing.letter.Goals as goal

pub returns-then-kind-eq0 : goal.returns-then-kind-eq0
returns-then-kind-eq0 c = search laws

pub returns-else-kind-eq0 : goal.returns-else-kind-eq0
returns-else-kind-eq0 c = search laws
