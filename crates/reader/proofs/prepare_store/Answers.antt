-- Its contract: the words lent are those from the fifth on.
use Rattle.reader.proofs.CallLaws.{prepare_store_laws as laws}
use Rattle.reader.proofs.prepare_store.Goals as goal

pub returns : goal.returns
returns c = search laws
