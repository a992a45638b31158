-- An entry of the table of option treatments, and its agreement with the flag definitions of the rules.
use Rattle.std.specs.Prelude.{ℕ, ◌≡◌, Bool, true, false, not, ◌&&◌, ◌||◌, eqb}
use Rattle.rules.specs.Options.{hop_by_hop_critical, ingress_to_egress_critical, strippable}
use Rattle.handler.specs.declared.treatment.Entry.{Entry}
use Rattle.handler.specs.declared.treatment.Entry.TheVariants.{Both, Egress, Kept, Stripped}

-- what transit does, what the egress does, and whether the strip flag applies
abbrev pub transit_discards : Entry → Bool
transit_discards Both = true
transit_discards Egress = false
transit_discards Kept = false
transit_discards Stripped = false

abbrev pub egress_discards : Entry → Bool
egress_discards Both = true
egress_discards Egress = true
egress_discards Kept = false
egress_discards Stripped = false

abbrev pub strip_applies : Entry → Bool
strip_applies Both = false
strip_applies Egress = false
strip_applies Kept = false
strip_applies Stripped = true

-- "Length, for the Flow ID .. stay tests beside it"
abbrev pub is_flow_id : ℕ → ℕ → Bool
is_flow_id key size = eqb key 0x083 && eqb size 2

abbrev pub stripped_by : Entry → ℕ → ℕ → Bool
stripped_by entry key size = not (is_flow_id key size) && strip_applies entry

-- "The table's agreement with the old rules": transit discards the critical hop-by-hop options, the egress every critical one
pub record Treats (key : ℕ) (entry : Entry) : Type 0 where
  pub transit : transit_discards entry ≡ hop_by_hop_critical key
  pub egress : egress_discards entry ≡ (hop_by_hop_critical key || ingress_to_egress_critical key)
  pub strip : (size : ℕ) → stripped_by entry key size ≡ strippable key size
