-- Its contract, by one law for each way out.
use Rattle.stores.proofs.PrepareLaws.{admit_laws as laws}
use Rattle.stores.proofs.preparing.admit.Goals as goal

pub returns-then-not-hop_size : goal.returns-then-not-hop_size
returns-then-not-hop_size c = search laws

pub returns-then-not-record_good : goal.returns-then-not-record_good
returns-then-not-record_good c = search laws

pub returns-in_default : goal.returns-in_default
returns-in_default c = search laws

pub add-requires : goal.add-requires
add-requires c = search laws

pub returns-then-not-add : goal.returns-then-not-add
returns-then-not-add c = search laws

pub returns : goal.returns
returns c = search laws
