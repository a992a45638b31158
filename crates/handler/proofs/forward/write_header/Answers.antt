-- Its contract: two writes side by side are one.
use Rattle.handler.proofs.Stages.{header_laws as laws}
use Rattle.handler.proofs.forward.write_header.Goals as goal

pub returns : goal.returns
returns c = search laws
