-- Its contract, by one law of `channel_read` for each way out.
use Rattle.handler.proofs.ChannelLaws.{channel_read_laws as laws}
use Rattle.handler.proofs.channel.channel_read.Goals as goal

pub returns-then-inner-lt22 : goal.returns-then-inner-lt22
returns-then-inner-lt22 c = search laws

pub returns-then-foreign : goal.returns-then-foreign
returns-then-foreign c = search laws

pub returns-then-chv-ne0 : goal.returns-then-chv-ne0
returns-then-chv-ne0 c = search laws

pub returns-then-na-eq1 : goal.returns-then-na-eq1
returns-then-na-eq1 c = search laws

pub returns-then-number-eq-PROTOCOL_ERROR : goal.returns-then-number-eq-PROTOCOL_ERROR
returns-then-number-eq-PROTOCOL_ERROR c = search laws

pub returns-then-number-ne-PROTOCOL_ECHO : goal.returns-then-number-ne-PROTOCOL_ECHO
returns-then-number-ne-PROTOCOL_ECHO c = search laws

pub returns-then-err-ne0 : goal.returns-then-err-ne0
returns-then-err-ne0 c = search laws

pub returns : goal.returns
returns c = search laws
