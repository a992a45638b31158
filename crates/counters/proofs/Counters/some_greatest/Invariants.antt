-- Its contract. The invariant: what was found so far and the counters not yet seen make up the whole.
use Rattle.counters.proofs.CountLaws.{Scanning}
use Rattle.counters.proofs.Counters.some_greatest.Given as goal

abbrev pub invariant-loop-count : goal.invariant-loop-count
invariant-loop-count l = Scanning l.self l.found l.count-index
