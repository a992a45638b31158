-- Its contract, by one law for each need.
use Rattle.campus.proofs.DoneLaws.{run_laws as laws}
use Rattle.campus.proofs.running.run.Goals as goal

pub find-requires : goal.find-requires
find-requires c = search laws

pub returns-in_default : goal.returns-in_default
returns-in_default c = search laws

pub run_at-requires : goal.run_at-requires
run_at-requires c = search laws
