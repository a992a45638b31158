-- Its contract, by the invariant that the later switches have edition 1.
use Rattle.campus.proofs.StoresLaws.{edition_2_laws as laws}
use Rattle.campus.proofs.switches.Switches.has_edition_2.Goals as goal

pub bounds-self-self : goal.bounds-self-self
bounds-self-self c = search laws

pub returns-then-self-i-eq1 : goal.returns-then-self-i-eq1
returns-then-self-i-eq1 c = search laws

pub loop-i-preserved : goal.loop-i-preserved
loop-i-preserved c = search laws

pub returns : goal.returns
returns c = search laws
