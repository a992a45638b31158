-- `out` has the first i octets of `s` in it from `at` on.
use Rattle.std.proofs.Common.{◌≡◌, length}
use Rattle.std.proofs.Math.Seq.{paste}
use Rattle.octets.proofs.fill_octets.Given as goal

abbrev pub invariant-loop-i : goal.invariant-loop-i
invariant-loop-i l = (l.out ≡ paste l.initial.out l.at l.s l.i) × (length l.out ≡ length l.initial.out)
