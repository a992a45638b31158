-- Its contract, by what is looked up for the egress.
use Rattle.handler.proofs.TaskLaws.{carry_laws as laws}
use Rattle.handler.proofs.transit.Goals as goal

pub transit-a-requires : goal.transit-a-requires
transit-a-requires g c = search laws

pub returns : goal.returns
returns g c = search laws
