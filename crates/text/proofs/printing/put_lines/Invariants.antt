-- The lines of the entries passed are written.
use Rattle.text.proofs.PrintLaws.{Writing}
use Rattle.text.proofs.printing.put_lines.Given as goal

abbrev pub invariant-loop-entry : goal.invariant-loop-entry
invariant-loop-entry l = Writing l.initial.out l.entries l.out l.at l.entry-index
