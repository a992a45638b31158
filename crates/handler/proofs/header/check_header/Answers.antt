-- Its contract, by one law of `header_refusal` for each way out.
use Rattle.handler.proofs.Refusals.{refusal_laws as laws}
use Rattle.handler.proofs.header.check_header.Goals as goal

pub returns-then-not-to_mac : goal.returns-then-not-to_mac
returns-then-not-to_mac c = search laws

pub returns-then-version-ne0 : goal.returns-then-version-ne0
returns-then-version-ne0 c = search laws

pub returns-then-multi-eq1 : goal.returns-then-multi-eq1
returns-then-multi-eq1 c = search laws

pub returns-then-h-eq0 : goal.returns-then-h-eq0
returns-then-h-eq0 c = search laws

pub returns-then-h-ge-ANY_RBRIDGE : goal.returns-then-h-ge-ANY_RBRIDGE
returns-then-h-ge-ANY_RBRIDGE c = search laws

pub returns-then-h-eq0-2 : goal.returns-then-h-eq0-2
returns-then-h-eq0-2 c = search laws

pub returns-then-h-gt-ANY_RBRIDGE : goal.returns-then-h-gt-ANY_RBRIDGE
returns-then-h-gt-ANY_RBRIDGE c = search laws

pub returns-then-hop_count-eq0 : goal.returns-then-hop_count-eq0
returns-then-hop_count-eq0 c = search laws

pub returns-then-f-inner_start : goal.returns-then-f-inner_start
returns-then-f-inner_start c = search laws

pub returns : goal.returns
returns c = search laws
