-- A description as the code holds it: its switches, and the places where its clock and its entry field start.
use Rattle.std.specs.Prelude.{ℕ, ◌+◌, ◌-◌, List, [], ◌∷◌, Bool, true, not, ◌&&◌, ◌||◌, length, drop, leb, eqb, if◌then◌else◌, is_some, Option, Some, None}
use Rattle.rules.specs.Octets.{be16, part}
use Rattle.rules.specs.Fields.{field_at, length_good}
use Rattle.rules.specs.Settings.{Settings}
use Rattle.rules.specs.Campus.{Described, switch_named}

-- the octets from place to place, or none where these are out of order or past the end
unfoldable pub between : List ℕ → ℕ → ℕ → List ℕ
between s start end = if leb start end && leb end (length s) then part s start (end - start) else []

abbrev pub clock_at : List ℕ → Option ℕ → Option (List ℕ)
clock_at s None = None
clock_at s (Some place) = Some (part s place 6)

abbrev pub clock_from : List ℕ → Option ℕ → List ℕ
clock_from s None = 0 ∷ 0 ∷ 0 ∷ 0 ∷ 0 ∷ 0 ∷ []
clock_from s (Some place) = part s place 6

-- the whole, whose entry field starts at `place`
abbrev pub entry_value : List ℕ → ℕ → List ℕ
entry_value s place = between s (place + 3) (length s)

abbrev pub described_by : List ℕ → List Settings → Option ℕ → ℕ → Described
described_by s switches clock place =
    record {
      switches = switches;
      clock = clock_at s clock;
      entry = switch_named switches (be16 (entry_value s place) 0);
      frame = drop 2 (entry_value s place);
    }

-- whether a tag is in its place, by what the code knows
unfoldable pub order_by : ℕ → Option ℕ → ℕ → Bool
order_by n clock tag = if eqb tag 2 || eqb tag 3 || eqb tag 6 then not (eqb n 0) else if eqb tag 4 then not (is_some clock) else true

-- the code for what stands behind the entry field, 0 for nothing
unfoldable pub code_after : List ℕ → ℕ → ℕ
code_after s at =
    if leb (length s) at then 0 else
    elim (field_at s at) [
      | None ↦ 41
      | Some f ↦ if not (length_good f.tag f.length) then 42 else 43
    ]

-- the clock and the number of switches once the field at a place is read
unfoldable pub clocked_by : Option ℕ → ℕ → ℕ → Option ℕ
clocked_by clock tag at = if eqb tag 4 then Some (at + 3) else clock

unfoldable pub counted_by : ℕ → ℕ → ℕ
counted_by n tag = if eqb tag 1 then n + 1 else n
