-- Its contract, by the law of each case.
use Rattle.text.proofs.PrintLaws.{hex_digit_laws as laws}
use Rattle.text.proofs.printing.hex_digit.Goals as goal

pub returns-then-d-lt10 : goal.returns-then-d-lt10
returns-then-d-lt10 c = search laws

pub returns : goal.returns
returns c = search laws
