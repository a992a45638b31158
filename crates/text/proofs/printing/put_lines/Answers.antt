-- Its contract. The invariant: the lines of the entries passed are written.
use Rattle.text.proofs.PrintLaws.{put_lines_laws as laws}
use Rattle.text.proofs.printing.put_lines.Goals as goal

pub loop-entry-init : goal.loop-entry-init
loop-entry-init c = search laws

pub loop-entry-preserved : goal.loop-entry-preserved
loop-entry-preserved c = search laws

pub returns : goal.returns
returns c = search laws
