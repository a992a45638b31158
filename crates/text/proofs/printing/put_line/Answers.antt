-- Its contract: the answer between the line's other parts.
use Rattle.text.proofs.PrintLaws.{put_line_laws as laws}
use Rattle.text.proofs.printing.put_line.Goals as goal

pub returns : goal.returns
returns c = search laws
