-- Its contract, by one law for each way out.
use Rattle.campus.proofs.ReadLaws.{take_laws as laws}
use Rattle.campus.proofs.refusals.Draft.take.Goals as goal

pub returns-then-not-length_good : goal.returns-then-not-length_good
returns-then-not-length_good c = search laws

pub returns-then-not-order_good : goal.returns-then-not-order_good
returns-then-not-order_good c = search laws

pub extend-requires : goal.extend-requires
extend-requires c = search laws

pub returns-in-4 : goal.returns-in-4
returns-in-4 c = search laws

pub returns-then-nickname_known : goal.returns-then-nickname_known
returns-then-nickname_known c = search laws

pub returns-else-nickname_known : goal.returns-else-nickname_known
returns-else-nickname_known c = search laws
