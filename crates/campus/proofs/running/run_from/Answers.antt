-- Its contract, by the invariant that the states so far are traced, and the run from here, with the replies that wait, is the
-- rest of the whole.
use Rattle.campus.proofs.RunLaws.{run_from_laws as laws}
use Rattle.campus.proofs.running.run_from.Goals as goal

pub loop-k-init : goal.loop-k-init
loop-k-init c = search laws

pub turn-r-requires : goal.turn-r-requires
turn-r-requires c = search laws

pub returns-in_default : goal.returns-in_default
returns-in_default c = search laws

pub loop-k-preserved : goal.loop-k-preserved
loop-k-preserved c = search laws

pub returns : goal.returns
returns c = search laws
