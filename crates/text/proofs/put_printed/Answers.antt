-- Its contract, by the room that any text of so many lines has.
use Rattle.text.proofs.TextLaws.{put_printed_laws as laws}
use Rattle.text.proofs.put_printed.Goals as goal

pub returns-then-count-text : goal.returns-then-count-text
returns-then-count-text c = search laws
