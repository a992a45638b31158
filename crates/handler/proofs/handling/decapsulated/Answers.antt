-- Its contract, by one law for each way out.
use Rattle.handler.proofs.RouteLaws.{decapsulated_laws as laws}
use Rattle.handler.proofs.handling.decapsulated.Goals as goal

pub returns-then-inner-lt18 : goal.returns-then-inner-lt18
returns-then-inner-lt18 c = search laws

pub returns-then-untagged : goal.returns-then-untagged
returns-then-untagged c = search laws

pub returns-then-frame-eq-ANY_RBRIDGE : goal.returns-then-frame-eq-ANY_RBRIDGE
returns-then-frame-eq-ANY_RBRIDGE c = search laws

pub returns-then-not-to_all_egress : goal.returns-then-not-to_all_egress
returns-then-not-to_all_egress c = search laws

pub returns-then-be16-eq-ETHERTYPE_IS_IS : goal.returns-then-be16-eq-ETHERTYPE_IS_IS
returns-then-be16-eq-ETHERTYPE_IS_IS c = search laws

pub returns : goal.returns
returns c = search laws
