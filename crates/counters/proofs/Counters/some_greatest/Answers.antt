-- Its contract. The invariant: what was found so far and the counters not yet seen make up the whole.
use Rattle.counters.proofs.CountLaws.{some_greatest_laws as laws}
use Rattle.counters.proofs.Counters.some_greatest.Goals as goal

pub loop-count-init : goal.loop-count-init
loop-count-init c = search laws

pub loop-count-preserved : goal.loop-count-preserved
loop-count-preserved c = search laws
