-- Its contract: the second write is over the end of the first.
use Rattle.handler.proofs.Stages.{write_macs_laws as laws}
use Rattle.handler.proofs.way.write_macs.Goals as goal

pub returns : goal.returns
returns c = search laws
