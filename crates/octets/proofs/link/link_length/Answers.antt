-- Its contract, by its tests in their order.
use Rattle.rules.proofs.FrameLaws.{link_length_laws as laws}
use Rattle.octets.proofs.link.link_length.Goals as goal

pub returns-then-be16-eq-ETHERTYPE_TAG : goal.returns-then-be16-eq-ETHERTYPE_TAG
returns-then-be16-eq-ETHERTYPE_TAG c = search laws

pub returns-else-be16-eq-ETHERTYPE_TAG : goal.returns-else-be16-eq-ETHERTYPE_TAG
returns-else-be16-eq-ETHERTYPE_TAG c = search laws
