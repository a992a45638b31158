-- A strip flag or an edition among the fields of settings or of a description, and the code by which it is refused.
use Rattle.std.specs.Prelude.{ℕ, List, Bool, not, ◌||◌, eqb, length, if◌then◌else◌}
use Rattle.rules.specs.Settings.{strip_good, edition_good}

-- a strip flag or an edition, and whether its value is good
unfoldable pub flag_tag : ℕ → Bool
flag_tag tag = eqb tag 3 || eqb tag 6

unfoldable pub flag_value : ℕ → List ℕ → Bool
flag_value tag v = if eqb tag 3 then strip_good v else edition_good v

-- 0, or the code of a description that refuses it: 43 no flag, 42 its length, 44 its value
abbrev pub flag_by : ℕ → List ℕ → ℕ
flag_by tag v = if not (flag_tag tag) then 43 else if not (eqb (length v) 1) then 42 else if not (flag_value tag v) then 44 else 0
