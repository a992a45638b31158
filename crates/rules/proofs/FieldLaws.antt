-- Laws of fields: one for each outcome of reading a field, what is known of a field that was taken, the fields from a place on by what
-- stands there, that more fuel changes none of them, and the lengths that tags have. By the tests, and by induction on the fuel.
use Rattle.std.specs.Prelude.{Option, Some, None}
use mathlib.Core.Path.{◌≡◌, refl, sym, ◌∙◌}
use mathlib.Core.List.{List, [], ◌∷◌}
use mathlib.Core.Bool.{Bool, false}
use Prim.Native.Nat.{ℕ, zero, suc, ◌+◌, ◌-◌, ◌<◌, ◌≤◌}
use native.Mathlib.Omega.{arith}
use borrow.Author.Rules.{rules}
use borrow.Author.Tests.{lt-ltb, le-ltb, ltb-false}
use lib.Dec.{leb, eqb}
use mir.Syntax.{w8}
use mir.Val.{Fits}
use lib.ListN.{length, get_or}
use specs.Octets.{octet, be16, part}
use specs.Fields.{field, cut, field_at, fields_from, fields_at, hop_size, length_good}
use specs.declared.FieldRead.{FieldRead}
use Rattle.rules.proofs.TestLaws.{tests, by_order, either}
use Rattle.rules.specs

-- reading a field as the code does: `size` is the length that it says
module _ (s : List ℕ) (at : ℕ) where
  pub field_outside : length s < at → None ≡ field_at s at
  unfolding field_at
  field_outside h = let short : length s < at + 3 = omega arith in simp tests

  module _ (from : at ≤ length s) where
    pub field_short : length s - at < 3 → None ≡ field_at s at
    unfolding field_at
    field_short h = let short : length s < at + 3 = omega arith in simp tests

    module _ (a : 3 ≤ length s - at) (size : ℕ) (is : size ≡ be16 s (at + 1)) where
      pub field_cut : length s - at - 3 < size → None ≡ field_at s at
      unfolding field_at
      field_cut h = rw (le-ltb (length s) (at + 3) (omega arith), ← is, lt-ltb (length s) (at + 3 + size) (omega arith))

      pub field_taken_lem : ((i : ℕ) → Fits w8 (get_or s i 0)) → size ≤ length s - at - 3 → Some (record { tag = get_or s at 0; length = size; next = at + 3 + size }) ≡ field_at s at
      unfolding field_at
      field_taken_lem octets h =
          let same : octet s at ≡ get_or s at 0 = omega (arith, octets at) in
          rw (le-ltb (length s) (at + 3) (omega arith), ← is, le-ltb (length s) (at + 3 + size) (omega arith), same)

pub ruleset field_at_laws = (rules, field_outside, field_short, field_cut, field_taken_lem)

-- what is known of a field that was taken
pub record IsField (s : List ℕ) (at : ℕ) (r : FieldRead) : Type 0 where
  pub its_tag : octet s at ≡ r.tag
  pub its_size : be16 s (at + 1) ≡ r.length
  pub ends : r.next ≡ at + 3 + r.length
  pub within : r.next ≤ length s

FieldFound : List ℕ → ℕ → Option FieldRead → Type 0
FieldFound s at None = Unit {0}
FieldFound s at (Some r) = IsField s at r

pub field_read : (s : List ℕ) (at : ℕ) (r : FieldRead) → field_at s at ≡ Some r → IsField s at r
unfolding field_at FieldFound
field_read s at r e = rw e at found
  where
    found : FieldFound s at (field_at s at)
    found = search (either (FieldFound s at), ltb-false)

-- the fields from a place on
module _ (fuel : ℕ) (s : List ℕ) (at : ℕ) where
  pub fields_end : length s ≤ at → fields_from (suc fuel) s at ≡ []
  unfolding fields_from
  fields_end h = simp (fields_from, tests)

  pub fields_cut : at < length s → field_at s at ≡ None → fields_from (suc fuel) s at ≡ cut ∷ []
  unfolding fields_from
  fields_cut h e = simp (fields_from, tests, e)

  pub fields_on : (r : FieldRead) → at < length s → field_at s at ≡ Some r
      → fields_from (suc fuel) s at ≡ field r.tag (part s (at + 3) r.length) ∷ fields_from fuel s r.next
  unfolding fields_from
  fields_on r h e = simp (fields_from, tests, e)

-- a fuel that reaches the end of the octets is as good as any other that does
module _ (s : List ℕ) where
  pub fields_fuel : (g g' at : ℕ) → length s ≤ at + g → length s ≤ at + g' → fields_from (suc g) s at ≡ fields_from (suc g') s at
  fields_fuel zero g' at h h' = let done : length s ≤ at = omega arith in rw (fields_end 0, fields_end g')
  fields_fuel (suc g) zero at h h' = let done : length s ≤ at = omega arith in rw (fields_end (suc g), fields_end 0)
  fields_fuel (suc g) (suc g') at h h' =
      by_order at (length s)
      (λ l.
      elim (field_at s at) as (λ w. field_at s at ≡ w → fields_from (suc (suc g)) s at ≡ fields_from (suc (suc g')) s at) [
        | None ↦ λ e. simp fields_cut
        | Some r ↦ λ e.
            let i = field_read s at r e in
            let later = fields_fuel g g' r.next (omega arith) (omega arith) in
            rw (fields_on (suc g) s at r l e, fields_on (suc g') s at r l e, later)
      ] refl)
      (λ e. simp fields_end)

  pub fields_whole : (at g : ℕ) → length s ≤ at + g → fields_from (suc g) s at ≡ fields_at s at
  fields_whole at g h = fields_fuel g (length s) at h (omega arith)

  -- so the fields from a place on, without a fuel
  module _ (at : ℕ) where
    pub fields_at_end : length s ≤ at → fields_at s at ≡ []
    fields_at_end h = fields_end (length s) s at h

    pub fields_at_cut : at < length s → field_at s at ≡ None → fields_at s at ≡ cut ∷ []
    fields_at_cut h e = fields_cut (length s) s at h e

    pub fields_at_on : (r : FieldRead) → at < length s → field_at s at ≡ Some r
        → fields_at s at ≡ field r.tag (part s (at + 3) r.length) ∷ fields_at s r.next
    fields_at_on r h e =
        let i = field_read s at r e in
        sym (fields_whole at (suc (length s)) (omega arith)) ∙ fields_on (suc (length s)) s at r h e

-- the length that a tag has, by tag
module _ (tag size : ℕ) where
  pub length_switch : tag ≡ 1 → eqb size 8 ≡ length_good tag size
  unfolding length_good
  length_switch e = rw e

  pub length_hop : (ok : Bool) → ok ≡ hop_size size → tag ≡ 2 → ok ≡ length_good tag size
  unfolding length_good
  length_hop ok is e = rw e is

  pub length_flag : tag ≡ 3 → eqb size 1 ≡ length_good tag size
  unfolding length_good
  length_flag e = rw e

  pub length_edition : tag ≡ 6 → eqb size 1 ≡ length_good tag size
  unfolding length_good
  length_edition e = rw e

  pub length_clock : tag ≡ 4 → eqb size 6 ≡ length_good tag size
  unfolding length_good
  length_clock e = rw e

  module _ (one : tag ≡ 1 → ⊥) (two : tag ≡ 2 → ⊥) (three : tag ≡ 3 → ⊥) (four : tag ≡ 4 → ⊥) where
    pub length_unknown : (tag ≡ 5 → ⊥) → (tag ≡ 6 → ⊥) → false ≡ length_good tag size
    unfolding length_good
    length_unknown n m = simp tests

  module _ (five : tag ≡ 5) where
    pub length_short : size < 2 → false ≡ length_good tag size
    unfolding length_good
    length_short h = simp (five, tests)

    pub length_frame : 2 ≤ size → leb size 2050 ≡ length_good tag size
    unfolding length_good
    length_frame h = simp (five, tests)

pub ruleset length_good_laws = (rules, length_switch, length_hop, length_flag, length_edition, length_clock, length_unknown, length_short, length_frame)
