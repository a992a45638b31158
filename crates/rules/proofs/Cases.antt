-- C1 to C12, one claim over the table of specs/Cases.antt, by computation.
use mathlib.Core.Path.{◌≡◌, refl}
use Rattle.rules.specs.Cases.{cases, computed_in, expected_in}

pub cases_hold : computed_in cases ≡ expected_in cases
unfolding cases computed_in
cases_hold = refl
