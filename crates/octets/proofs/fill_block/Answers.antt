-- Its contract, by way of a block of our own.
use Rattle.octets.proofs.Ends.{block_laws as laws}
use Rattle.octets.proofs.fill_block.Goals as goal

pub returns : goal.returns
returns c = search laws
