-- Its contract. The invariant: what was met so far is above the total and the counters passed.
use Rattle.counters.proofs.CountLaws.{bits_met_laws as laws}
use Rattle.counters.proofs.Counters.bits_met.Goals as goal

pub loop-count-preserved : goal.loop-count-preserved
loop-count-preserved c = search laws
