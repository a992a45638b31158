-- Its contract. The invariant: what was met so far is above the total and the counters passed.
use Rattle.counters.proofs.CountLaws.{Meeting}
use Rattle.counters.proofs.Counters.bits_met.Given as goal

abbrev pub invariant-loop-count : goal.invariant-loop-count
invariant-loop-count l = Meeting l.self l.met l.count-index
