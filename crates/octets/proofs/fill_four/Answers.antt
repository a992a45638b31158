-- Its contract, by writes side by side.
use Rattle.octets.proofs.Ends.{four_blocks_laws as laws}
use Rattle.octets.proofs.fill_four.Goals as goal

pub returns : goal.returns
returns c = search laws
