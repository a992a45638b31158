-- Its contract: a clock of six octets lies within the description.
use Rattle.campus.proofs.DoneLaws.{clock_of_laws as laws}
use Rattle.campus.proofs.running.clock_of.Goals as goal

pub slice_bounds-copy_from_slice-end-in-Some : goal.slice_bounds-copy_from_slice-end-in-Some
slice_bounds-copy_from_slice-end-in-Some c = search laws

pub returns-in-Some : goal.returns-in-Some
returns-in-Some c = search laws
