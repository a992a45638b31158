-- Its contract, by one law for each way out.
use Rattle.handler.proofs.StoreLaws.{handle_prepared_laws as laws}
use Rattle.handler.proofs.handle_prepared.Goals as goal

pub returns-then-not-good : goal.returns-then-not-good
returns-then-not-good c = search laws

pub invariant_of-switch : goal.invariant_of-switch
invariant_of-switch c = search laws

pub returns-in-Err : goal.returns-in-Err
returns-in-Err c = search laws

pub returns-in-Ok : goal.returns-in-Ok
returns-in-Ok c = search laws
