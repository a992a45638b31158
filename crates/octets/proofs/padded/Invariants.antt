-- The octets before i are read.
use Rattle.std.proofs.Common.{ℕ, ◌≡◌, ◌<◌, get_or, length}
use Rattle.rules.specs.Octets.{octet}
use Rattle.octets.proofs.padded.Given as goal

abbrev pub invariant-loop-i : goal.invariant-loop-i
invariant-loop-i g l = (length l.octets ≡ g.row.N) × ((k : ℕ) → k < l.i → get_or l.octets k 0 ≡ octet l.s k)
