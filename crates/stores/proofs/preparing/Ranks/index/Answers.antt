-- Its contract, by the test of the last record.
use Rattle.stores.proofs.WordLaws.{index_for_laws as laws}
use Rattle.stores.proofs.preparing.Ranks.index.Goals as goal

pub returns-then-below : goal.returns-then-below
returns-then-below c = search laws

pub returns : goal.returns
returns c = search laws
