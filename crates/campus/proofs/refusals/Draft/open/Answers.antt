-- Its contract, by one law for each way out.
use Rattle.campus.proofs.ReadLaws.{open_laws as laws}
use Rattle.campus.proofs.refusals.Draft.open.Goals as goal

pub returns-then-not-open : goal.returns-then-not-open
returns-then-not-open c = search laws

pub returns-then-known : goal.returns-then-known
returns-then-known c = search laws

pub returns-then-self-eq16 : goal.returns-then-self-eq16
returns-then-self-eq16 c = search laws

pub returns : goal.returns
returns c = search laws
