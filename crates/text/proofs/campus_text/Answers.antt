-- Its contract: an answer other than 49 says that the trace buffer was large enough.
use Rattle.text.proofs.TextLaws.{campus_text_laws as laws}
use Rattle.text.proofs.campus_text.Goals as goal

pub put_printed-requires : goal.put_printed-requires
put_printed-requires c = search laws

pub returns : goal.returns
returns c = search laws
