-- Its contract, by the invariant that the switch is among the first i or nowhere.
use Rattle.campus.proofs.StoresLaws.{find_laws as laws}
use Rattle.campus.proofs.switches.Switches.find.Goals as goal

pub returns-then-self-i : goal.returns-then-self-i
returns-then-self-i c = search laws

pub loop-i-preserved : goal.loop-i-preserved
loop-i-preserved c = search laws

pub returns : goal.returns
returns c = search laws
