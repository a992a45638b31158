-- Its contract. The invariant: what was met so far, with what the walk finds from here on, is what it finds in all.
use Rattle.std.proofs.Common.{◌-◌, length}
use Rattle.handler.proofs.Walks.{Checking}
use Rattle.handler.proofs.options.check_options.Given as goal

abbrev pub invariant-loop-c : goal.invariant-loop-c
invariant-loop-c l = Checking l.area l.c

abbrev pub decreases-loop-c : goal.decreases-loop-c
decreases-loop-c l = length l.area - l.c.at
