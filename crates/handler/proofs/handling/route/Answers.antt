-- Its contract, by what is read of the area.
use Rattle.handler.proofs.RouteLaws.{route_laws as laws}
use Rattle.rules.proofs.TriedLaws.{left_with}
use Rattle.handler.proofs.handling.route.Goals as goal

pub returns-in_err-c : goal.returns-in_err-c
returns-in_err-c c =
    let left = left_with {e = c.in_err-c.field-0.0} c.from_residual.result c.from_residual.ensures in
    search (laws, left)
