-- Its contract, by its test.
use Rattle.handler.proofs.RouteLaws.{arrived_laws as laws}
use Rattle.handler.proofs.handling.arrived.Goals as goal

pub returns-then-area_stops : goal.returns-then-area_stops
returns-then-area_stops c = search laws

pub returns : goal.returns
returns c = search laws
