-- Its contract, by its tests in their order.
use Rattle.handler.proofs.RouteLaws.{alert_of_laws as laws}
use Rattle.handler.proofs.handling.alert_of.Goals as goal

pub returns-then-not-rfc7179 : goal.returns-then-not-rfc7179
returns-then-not-rfc7179 c = search laws

pub returns-then-not-some_alert : goal.returns-then-not-some_alert
returns-then-not-some_alert c = search laws

pub returns-then-not-channel_message : goal.returns-then-not-channel_message
returns-then-not-channel_message c = search laws

pub returns : goal.returns
returns c = search laws
