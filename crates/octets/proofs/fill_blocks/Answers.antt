-- Its contract. The invariant: all parts of 16 octets up to `done` are copied.
use Rattle.octets.proofs.Ends.{blocks_laws as laws}
use Rattle.octets.proofs.fill_blocks.Goals as goal

pub loop-done-init : goal.loop-done-init
loop-done-init c = search laws

pub loop-done-preserved : goal.loop-done-preserved
loop-done-preserved c = search laws

pub returns : goal.returns
returns c = search laws
