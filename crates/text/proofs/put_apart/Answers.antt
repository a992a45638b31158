-- Its contract: what is printed is copied if it fits.
use Rattle.text.proofs.TextLaws.{put_apart_laws as laws}
use Rattle.text.proofs.put_apart.Goals as goal

pub returns-then-text-size : goal.returns-then-text-size
returns-then-text-size c = search laws

pub returns : goal.returns
returns c = search laws
