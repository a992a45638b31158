-- All parts of 64 octets up to `done` are copied.
use Rattle.std.proofs.Common.{◌-◌}
use Rattle.octets.proofs.Ends.{Parts}
use Rattle.octets.proofs.fill_long.Given as goal

abbrev pub invariant-loop-done : goal.invariant-loop-done
invariant-loop-done l = Parts 64 l.initial.out l.at l.s l.last l.out l.done

abbrev pub decreases-loop-done : goal.decreases-loop-done
decreases-loop-done l = l.last - l.done
