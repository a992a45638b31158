-- Its contract: below the highest bit no word is at its greatest value.
use Rattle.counters.proofs.CountLaws.{full_laws as laws}
use Rattle.counters.proofs.Counters.is_full.Goals as goal

pub returns-else-bits_met : goal.returns-else-bits_met
returns-else-bits_met c = search laws
