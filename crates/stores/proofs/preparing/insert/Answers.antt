-- Its contract, by whether the rank was met.
use Rattle.stores.proofs.WordLaws.{insert_laws as laws}
use Rattle.stores.proofs.preparing.insert.Goals as goal

pub returns-then-met : goal.returns-then-met
returns-then-met c = search laws

pub put_at-requires : goal.put_at-requires
put_at-requires c = search laws

pub returns : goal.returns
returns c = search laws
