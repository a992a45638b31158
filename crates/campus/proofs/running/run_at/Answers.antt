-- Its contract, by one law for each need.
use Rattle.campus.proofs.DoneLaws.{run_at_laws as laws}
use Rattle.campus.proofs.running.run_at.Goals as goal

pub clock_of-octets-requires : goal.clock_of-octets-requires
clock_of-octets-requires c = search laws

pub run_from-requires : goal.run_from-requires
run_from-requires c = search laws

pub returns-then-two : goal.returns-then-two
returns-then-two c = search laws

pub run_from-requires-2 : goal.run_from-requires-2
run_from-requires-2 c = search laws

pub returns : goal.returns
returns c = search laws
