-- Its contract, by one law of `read_frame` for each way out.
use Rattle.octets.proofs.WordLaws.{read_laws as laws}
use Rattle.octets.proofs.link.read_frame.Goals as goal

pub returns-then-head-from : goal.returns-then-head-from
returns-then-head-from c = search laws

pub returns-then-f-lt14 : goal.returns-then-f-lt14
returns-then-f-lt14 c = search laws

pub returns-then-f-n : goal.returns-then-f-n
returns-then-f-n c = search laws

pub overflow_sub-n : goal.overflow_sub-n
overflow_sub-n c = search laws

pub returns-then-be16-ne-ETHERTYPE_TRILL : goal.returns-then-be16-ne-ETHERTYPE_TRILL
returns-then-be16-ne-ETHERTYPE_TRILL c = search laws

pub returns-then-f-n-2 : goal.returns-then-f-n-2
returns-then-f-n-2 c = search laws

pub returns : goal.returns
returns c = search laws
