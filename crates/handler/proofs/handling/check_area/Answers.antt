-- Its contract, by the edition.
use Rattle.handler.proofs.RouteLaws.{check_area_laws as laws}
use Rattle.handler.proofs.handling.check_area.Goals as goal

pub returns-then-refused : goal.returns-then-refused
returns-then-refused c = search laws

pub returns : goal.returns
returns c = search laws
