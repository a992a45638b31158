-- Its contract, by the edition.
use Rattle.handler.proofs.RouteLaws.{read_area_laws as laws}
use Rattle.handler.proofs.handling.read_area.Goals as goal

pub returns-then-not-rfc7179 : goal.returns-then-not-rfc7179
returns-then-not-rfc7179 c = search laws

pub returns-then-refused : goal.returns-then-refused
returns-then-refused c = search laws

pub returns : goal.returns
returns c = search laws
