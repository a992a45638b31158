-- Its contract: what the run leaves is what is printed.
use Rattle.text.proofs.TextLaws.{text_of_laws as laws}
use Rattle.text.proofs.text_of.Goals as goal

pub put_printed-requires : goal.put_printed-requires
put_printed-requires c = search laws

pub returns : goal.returns
returns c = search laws
