-- Its contract: an area without options, or the options and the summary tests.
use Rattle.handler.proofs.Walks.{check_area_laws as laws}
use Rattle.handler.proofs.options.check_area.Goals as goal

pub returns-then-area-le4 : goal.returns-then-area-le4
returns-then-area-le4 c = search laws

pub returns : goal.returns
returns c = search laws
