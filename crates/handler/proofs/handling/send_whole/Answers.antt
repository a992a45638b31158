-- Its contract, by how long the frame is.
use Rattle.handler.proofs.StageLaws.{send_whole_laws as laws}
use Rattle.handler.proofs.handling.send_whole.Goals as goal

pub returns-then-link_length-size-gt-FRAME_MOST : goal.returns-then-link_length-size-gt-FRAME_MOST
returns-then-link_length-size-gt-FRAME_MOST c = search laws

pub forward_whole-end-requires : goal.forward_whole-end-requires
forward_whole-end-requires c = search laws

pub wrote-requires : goal.wrote-requires
wrote-requires c = search laws

pub returns : goal.returns
returns c = search laws
