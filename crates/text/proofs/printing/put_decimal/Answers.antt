-- Its contract: the digits are those of its decimal text. One law for each need.
use Rattle.text.proofs.PrintLaws.{put_decimal_laws as laws}
use Rattle.text.proofs.printing.put_decimal.Goals as goal

pub returns-then-n-lt10 : goal.returns-then-n-lt10
returns-then-n-lt10 c = search laws

pub returns-then-n-lt100 : goal.returns-then-n-lt100
returns-then-n-lt100 c = search laws

pub returns-then-n-lt1000 : goal.returns-then-n-lt1000
returns-then-n-lt1000 c = search laws

pub returns : goal.returns
returns c = search laws
