-- Its contract. The invariant: `out` has the first i octets of `s` in it from `at` on.
use Rattle.octets.proofs.Ends.{fill_laws as laws}
use Rattle.octets.proofs.fill_octets.Goals as goal

pub loop-i-preserved : goal.loop-i-preserved
loop-i-preserved c = search laws

pub returns : goal.returns
returns c = search laws
