-- T-11: "one call takes the destination and writes the link header of its ruling record, saying 0 and its length, or writes nothing and
-- says 1 for bad settings, else 21 for no next hop, else 2 for a buffer too short for it".
use Rattle.std.specs.Prelude.{ℕ, List, [], length, ltb, if◌then◌else◌, Some, None}
use Rattle.rules.specs.Settings.{Ways, ways_of, settings_of}
use Rattle.rules.specs.Link.{link}

-- the answer, and the header written
pub record WayOut : Type 0 where
  pub number : ℕ
  pub octets : List ℕ

abbrev pub no_way : ℕ → WayOut
no_way number = record { number = number; octets = [] }

-- `room` is the length of the buffer
unfoldable pub way_out_by : Ways → ℕ → ℕ → WayOut
way_out_by S destination room =
    elim (S.hop destination) [
      | None ↦ no_way 21
      | Some r ↦ if ltb room (length (link S r)) then no_way 2 else record { number = 0; octets = link S r }
    ]

unfoldable pub way_out : List ℕ → ℕ → ℕ → WayOut
way_out settings destination room = elim (settings_of settings) [ None ↦ no_way 1 | Some S ↦ way_out_by (ways_of S) destination room ]
