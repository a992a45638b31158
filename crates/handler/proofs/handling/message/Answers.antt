-- Its contract, by what the message is found to be.
use Rattle.handler.proofs.TaskLaws.{message_laws as laws}
use Rattle.handler.proofs.handling.message.Goals as goal

pub echo_answer-requires : goal.echo_answer-requires
echo_answer-requires c = search laws

pub returns-in-Fault : goal.returns-in-Fault
returns-in-Fault c = search laws

pub returns-in-BadErr : goal.returns-in-BadErr
returns-in-BadErr c = search laws

pub returns-in-ErrorHeard : goal.returns-in-ErrorHeard
returns-in-ErrorHeard c = search laws

pub returns-in-BadEcho : goal.returns-in-BadEcho
returns-in-BadEcho c = search laws

pub returns-in-EchoHeard : goal.returns-in-EchoHeard
returns-in-EchoHeard c = search laws

pub returns-in-EchoRequest : goal.returns-in-EchoRequest
returns-in-EchoRequest c = search laws
