-- Its contract, by one law for each way out.
use Rattle.handler.proofs.RouteLaws.{route_read_laws as laws}
use Rattle.handler.proofs.handling.route_read.Goals as goal

pub returns-then-area_stops : goal.returns-then-area_stops
returns-then-area_stops c = search laws

pub returns : goal.returns
returns c = search laws
