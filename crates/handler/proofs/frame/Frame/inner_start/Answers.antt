-- Its contract, as the header was read of the frame.
use Rattle.handler.proofs.StageLaws.{frame_laws as laws}
use Rattle.handler.proofs.frame.Frame.inner_start.Goals as goal

pub inner_start-requires : goal.inner_start-requires
inner_start-requires c = search laws
