-- Its contract, by the cases of the message.
use Rattle.rules.specs.Handling.{alert_to}
use Rattle.handler.proofs.RouteLaws.{alert_to_laws as laws}
use Rattle.handler.proofs.handling.alert_to.Goals as goal

pub returns-then-critical : goal.returns-then-critical
unfolding alert_to
returns-then-critical c = search laws

pub returns-then-critical-2 : goal.returns-then-critical-2
unfolding alert_to
returns-then-critical-2 c = search laws

pub returns-then-answered : goal.returns-then-answered
unfolding alert_to
returns-then-answered c = search laws

pub returns-else-critical : goal.returns-else-critical
unfolding alert_to
returns-else-critical c = search laws

pub returns-else-critical-2 : goal.returns-else-critical-2
unfolding alert_to
returns-else-critical-2 c = search laws

pub returns-else-answered : goal.returns-else-answered
unfolding alert_to
returns-else-answered c = search laws

pub returns-in-ErrorHeard : goal.returns-in-ErrorHeard
unfolding alert_to
returns-in-ErrorHeard c = search laws

pub returns-in-BadEcho : goal.returns-in-BadEcho
unfolding alert_to
returns-in-BadEcho c = search laws

pub returns-in-EchoHeard : goal.returns-in-EchoHeard
unfolding alert_to
returns-in-EchoHeard c = search laws
