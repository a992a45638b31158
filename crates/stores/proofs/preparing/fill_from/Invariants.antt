-- Its contract. The invariant: the words stand for what was read, and the fields from `at` on decide as all do.
use Rattle.std.proofs.Common.{◌-◌, length}
use Rattle.stores.proofs.PrepareLaws.{Filling}
use Rattle.stores.proofs.preparing.fill_from.Given as goal

abbrev pub invariant-loop-at : goal.invariant-loop-at
invariant-loop-at l = Filling l.s l.from l.initial.w l.w l.at

abbrev pub decreases-loop-at : goal.decreases-loop-at
decreases-loop-at l = length l.s - l.at
