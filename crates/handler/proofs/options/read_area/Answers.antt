-- Its contract: an area without options, or its first word, the walk and the summary tests.
use Rattle.handler.proofs.Walks.{read_area_laws as laws}
use Rattle.handler.proofs.options.read_area.Goals as goal

pub returns-then-area-le4 : goal.returns-then-area-le4
returns-then-area-le4 c = search laws

pub returns : goal.returns
returns c = search laws
