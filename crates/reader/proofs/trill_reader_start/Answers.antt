-- Its contract, by one law for each way out.
use Rattle.reader.proofs.CallLaws.{start_laws as laws}
use Rattle.reader.proofs.trill_reader_start.Goals as goal

pub returns : goal.returns
returns c = search laws
