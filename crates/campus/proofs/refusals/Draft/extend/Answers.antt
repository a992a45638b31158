-- Its contract, by the latest switch.
use Rattle.campus.proofs.ReadLaws.{extend_laws as laws}
use Rattle.campus.proofs.refusals.Draft.extend.Goals as goal

pub returns : goal.returns
returns c = search laws
