-- Its contract, by one law for each need.
use Rattle.text.proofs.PrintLaws.{put_number_laws as laws}
use Rattle.text.proofs.printing.put_number.Goals as goal

pub put_decimal-at-requires : goal.put_decimal-at-requires
put_decimal-at-requires c = search laws

pub returns : goal.returns
returns c = search laws
