-- Its contract, by its tests in their order.
use Rattle.rules.proofs.HeaderLaws.{we_are_egress_laws as laws}
use Rattle.handler.proofs.frame.Frame.is_to_us.Goals as goal

pub returns-then-self-nickname : goal.returns-then-self-nickname
returns-then-self-nickname c = search laws

pub returns : goal.returns
returns c = search laws
