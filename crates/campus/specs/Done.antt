-- What the calls on a description are promised to do: the run, demand 3 of the minutes included.
use Rattle.std.specs.Prelude.{ℕ, ◌≤◌, ◌≡◌, List, length, Result, Ok, Err}
use Rattle.rules.specs.Campus.{Described, described, accepted, trace_needed, campus, trace_after}
use Rattle.rules.specs.Demand.{Demand}
use Rattle.rules.specs.declared.Refusal.{Refusal}

-- the number of trace entries, 0 where the description is refused
abbrev pub count_by : Result ℕ Refusal → ℕ
count_by (Ok count) = count
count_by (Err r) = 0

pub record CampusDone (description trace trace' : List ℕ) (code count : ℕ) : Type 0 where
  pub coded : code ≡ (campus description (length trace)).code
  pub counted : count ≡ (campus description (length trace)).count
  pub traced : trace' ≡ trace_after trace (campus description (length trace))
  -- demand 3 of the minutes, whole: of an accepted description, and a trace buffer of the size asked
  pub demanded : (d : Described) → described description ≡ accepted d → trace_needed d ≤ length trace → Demand d trace trace' code count
