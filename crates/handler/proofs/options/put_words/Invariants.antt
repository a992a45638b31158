-- Its contract. The invariant: `out` has the first i octets of `s` in it from `to` on, which are whole words.
use Rattle.std.proofs.Common.{◌≡◌, ◌-◌, ◌%◌, ◌≤◌, length, take}
use Rattle.rules.specs.Octets.{put}
use Rattle.handler.proofs.options.put_words.Given as goal

abbrev pub invariant-loop-i : goal.invariant-loop-i
invariant-loop-i l = (l.i ≤ length l.s) × (l.i % 4 ≡ 0) × (l.out ≡ put l.initial.out l.to (take l.i l.s)) × (length l.out ≡ length l.initial.out)

abbrev pub decreases-loop-i : goal.decreases-loop-i
decreases-loop-i l = length l.s - l.i
