-- Its contract. The invariant: what was met and written so far, with what the walk finds from here on, is what it finds in all.
use Rattle.std.proofs.Common.{◌-◌, length}
use mathlib.Core.Bool.{true}
use Rattle.handler.proofs.Walks.{Walking}
use Rattle.handler.proofs.options.walk_area.Given as goal

abbrev pub invariant-loop-c : goal.invariant-loop-c
invariant-loop-c l = Walking true l.area l.initial.kept l.kept l.c

abbrev pub decreases-loop-c : goal.decreases-loop-c
decreases-loop-c l = length l.area - l.c.at
