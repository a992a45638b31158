-- Its contract, by what is looked up.
use Rattle.handler.proofs.WayOutLaws.{way_out_at_laws as laws}
use Rattle.handler.proofs.way_out_at.Goals as goal

pub returns : goal.returns
returns g c = search laws
