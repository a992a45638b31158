-- Its contract, bad settings are 1, and good ones tell the way out.
use Rattle.handler.proofs.WayOutLaws.{settings_way_laws as laws}
use Rattle.handler.proofs.way_out.Goals as goal

pub returns-in_default : goal.returns-in_default
returns-in_default c = search laws

pub returns : goal.returns
returns c = search laws
