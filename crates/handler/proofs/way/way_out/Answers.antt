-- Its contract, by one law for each way out.
use Rattle.handler.proofs.WayOutLaws.{way_out_laws as laws}
use Rattle.handler.proofs.way.way_out.Goals as goal

pub returns-in_default : goal.returns-in_default
returns-in_default c = search laws

pub returns-then-out-link_length : goal.returns-then-out-link_length
returns-then-out-link_length c = search laws

pub overflow_cast-result : goal.overflow_cast-result
overflow_cast-result c = search laws

pub returns : goal.returns
returns c = search laws
