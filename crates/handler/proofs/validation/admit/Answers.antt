-- Its contract, by one law for each way out.
use Rattle.handler.proofs.ValidationLaws.{admit_laws as laws}
use Rattle.handler.proofs.validation.admit.Goals as goal

pub returns-then-not-hop_size : goal.returns-then-not-hop_size
returns-then-not-hop_size c = search laws

pub returns-then-old-eq0 : goal.returns-then-old-eq0
returns-then-old-eq0 c = search laws

pub returns-then-not-fresh : goal.returns-then-not-fresh
returns-then-not-fresh c = search laws

pub returns : goal.returns
returns c = search laws
