-- Its contract. The invariant: whether the rank is among the records left is whether it is met.
use Rattle.std.proofs.Common.{◌-◌, length}
use Rattle.handler.proofs.ValidationLaws.{Looking}
use Rattle.handler.proofs.validation.met.Given as goal

abbrev pub invariant-loop-at : goal.invariant-loop-at
invariant-loop-at l = Looking l.s l.from l.n l.rank l.left l.at

abbrev pub decreases-loop-at : goal.decreases-loop-at
decreases-loop-at l = length l.s - l.at
