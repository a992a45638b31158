-- Its contract: the eight octets are the entry's, and there is room for them.
use Rattle.campus.proofs.RunLaws.{put_entry_laws as laws}
use Rattle.campus.proofs.running.put_entry.Goals as goal

pub returns : goal.returns
returns c = search laws
