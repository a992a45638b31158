-- Its contract, by one law for each way out.
use Rattle.handler.proofs.WayOutLaws.{way_out_prepared_laws as laws}
use Rattle.handler.proofs.way_out_prepared.Goals as goal

pub returns-then-not-good : goal.returns-then-not-good
returns-then-not-good c = search laws

pub invariant_of-way_out_at : goal.invariant_of-way_out_at
invariant_of-way_out_at c = search laws

pub returns : goal.returns
returns c = search laws
