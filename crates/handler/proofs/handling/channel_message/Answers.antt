-- Its contract, by its tests in their order.
use Rattle.handler.proofs.RouteLaws.{channel_message_laws as laws}
use Rattle.handler.proofs.handling.channel_message.Goals as goal

pub returns-then-inner-lt18 : goal.returns-then-inner-lt18
returns-then-inner-lt18 c = search laws

pub returns-then-untagged : goal.returns-then-untagged
returns-then-untagged c = search laws

pub returns-then-not-to_all_egress : goal.returns-then-not-to_all_egress
returns-then-not-to_all_egress c = search laws

pub returns : goal.returns
returns c = search laws
