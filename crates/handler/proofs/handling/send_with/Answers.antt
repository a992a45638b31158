-- Its contract, by how long the frame is with that area.
use Rattle.handler.proofs.StageLaws.{send_with_laws as laws}
use Rattle.handler.proofs.handling.send_with.Goals as goal

pub returns-then-link_length-size-gt-FRAME_MOST : goal.returns-then-link_length-size-gt-FRAME_MOST
returns-then-link_length-size-gt-FRAME_MOST c = search laws

pub forward_with-end-requires : goal.forward_with-end-requires
forward_with-end-requires c = search laws

pub wrote-requires : goal.wrote-requires
wrote-requires c = search laws

pub returns : goal.returns
returns c = search laws
