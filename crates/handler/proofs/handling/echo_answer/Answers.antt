-- Its contract, by the next hop back that was found.
use Rattle.handler.proofs.StageLaws.{echo_answer_laws as laws}
use Rattle.handler.proofs.handling.echo_answer.Goals as goal

pub slice_bounds-body-count : goal.slice_bounds-body-count
slice_bounds-body-count c = search laws

pub slice_bounds-body-start : goal.slice_bounds-body-start
slice_bounds-body-start c = search laws

pub returns-then-octet-ne2 : goal.returns-then-octet-ne2
returns-then-octet-ne2 c = search laws

pub returns-in_default : goal.returns-in_default
returns-in_default c = search laws

pub echo_reply-n-requires : goal.echo_reply-n-requires
echo_reply-n-requires c = search laws

pub returns : goal.returns
returns c = search laws
