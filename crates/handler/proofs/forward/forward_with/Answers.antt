-- Its contract: three writes side by side are one.
use Rattle.handler.proofs.Stages.{forward_laws as laws}
use Rattle.handler.proofs.forward.forward_with.Goals as goal

pub write_header-at-requires : goal.write_header-at-requires
write_header-at-requires c = search laws

pub returns : goal.returns
returns c = search laws
