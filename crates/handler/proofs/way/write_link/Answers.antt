-- Its contract, by the VLAN: what follows the MACs is written over the end of the last write.
use Rattle.handler.proofs.Stages.{write_link_laws as laws}
use Rattle.handler.proofs.way.write_link.Goals as goal

pub returns-then-r-eq0 : goal.returns-then-r-eq0
returns-then-r-eq0 c = search laws

pub returns : goal.returns
returns c = search laws
