-- Its contract, by one law for each way out.
use Rattle.counters.proofs.CountLaws.{count_laws as laws}
use Rattle.counters.proofs.trill_handle_counted.Goals as goal

pub returns-then-is_full : goal.returns-then-is_full
returns-then-is_full c = search laws

pub count-requires-clause-listed : goal.count-requires-clause-listed
count-requires-clause-listed c = search laws

pub returns : goal.returns
returns c = search laws
