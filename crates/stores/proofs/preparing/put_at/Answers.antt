-- Its contract, by the words moved and the two written.
use Rattle.stores.proofs.WordLaws.{put_at_laws as laws}
use Rattle.stores.proofs.preparing.put_at.Goals as goal

pub returns : goal.returns
returns c = search laws
