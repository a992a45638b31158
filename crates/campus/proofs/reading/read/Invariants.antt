-- The words stand for the switches read, and the rest decides as all do.
use Rattle.std.proofs.Common.{◌-◌, length}
use Rattle.campus.proofs.ReadLaws.{Holding}
use Rattle.campus.proofs.reading.read.Given as goal

abbrev pub invariant-loop-at : goal.invariant-loop-at
invariant-loop-at l = Holding l.s l.draft.words.now l.draft.starts l.draft.count l.draft.clock l.at

abbrev pub decreases-loop-at : goal.decreases-loop-at
decreases-loop-at l = length l.s - l.at
