-- Where a field that the code took lies, as the code's indices, parts and measures ask it. By what is known of a field that was read.
use Rattle.std.specs.Prelude.{Option, Some}
use mathlib.Core.Path.{◌≡◌, sym, ◌∙◌}
use mathlib.Core.List.{List}
use Prim.Native.Nat.{ℕ, ◌+◌, ◌-◌, ◌≤◌, ◌<◌}
use native.Mathlib.Omega.{arith}
use lib.ListN.{length}
use specs.Fields.{field_at}
use specs.declared.FieldRead.{FieldRead}
use Rattle.rules.proofs.FieldLaws.{IsField, field_read}
use Rattle.rules.specs

module _ (s : List ℕ) (at : ℕ) (read : Option FieldRead) (r : FieldRead) (t : read ≡ Some r) (e : read ≡ field_at s at) where
  pub its : IsField s at r
  its = field_read s at r (sym e ∙ t)

  pub taken_whole : at + 3 + r.length ≤ length s
  taken_whole = omega (arith, its)

  pub taken_from : at + 3 ≤ r.next
  taken_from = omega (arith, its)

  pub taken_to : r.next ≤ length s
  taken_to = its.within

  pub taken_less : length s - r.next < length s - at
  taken_less = omega (arith, its)

pub ruleset taken = (taken_whole, taken_from, taken_to, taken_less)

-- the first field
pub taken_first : (s : List ℕ) (read : Option FieldRead) (r : FieldRead) → read ≡ field_at s 0 → read ≡ Some r → 3 ≤ r.next
taken_first s read r e t = omega (arith, its s 0 read r t e)
