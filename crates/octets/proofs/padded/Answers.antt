-- Its contract, octet by octet.
use Rattle.octets.proofs.padded.Goals as goal
use Rattle.octets.proofs.Ends.{read_on}

pub loop-i-preserved : goal.loop-i-preserved
loop-i-preserved g c = read_on _ _ _ _ _ c.loop-i.invariant.0 c.loop-i.invariant.1 c.loop-i-test.true c.octet.ensures
