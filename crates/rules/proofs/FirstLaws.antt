-- Settings octets by their first field: bad where it is cut or does not open a switch, else decided by the fields behind it, and no later field
-- changes the switch. By computation, and by induction on the fields.
use Rattle.std.specs.Prelude.{Some, None}
use mathlib.Core.Path.{◌≡◌, refl, ◌∙◌}
use mathlib.Core.List.{List, [], ◌∷◌, foldl}
use mathlib.Core.Bool.{true, false}
use Prim.Native.Nat.{ℕ, ◌-◌}
use native.Mathlib.Omega.{arith}
use lib.ListN.{length}
use specs.{Octets.part, Campus.known}
use specs.Fields.{Field, field, cut, field_at, fields_at, fields}
use specs.Settings.{Settings, switch_of, with_field, opens, opened, continues, settings_from, settings_of}
use proofs.TestLaws.{by_order, either}
use specs.declared.FieldRead.{FieldRead}
use proofs.FieldLaws.{field_read, fields_at_end, fields_at_cut, fields_at_on}
use Rattle.rules.specs
use Rattle.rules.proofs

pub continues_cut : (T : Settings) → continues T cut ≡ false
unfolding continues
continues_cut T = refl

pub opened_field : (tag : ℕ) (v : List ℕ) → opened (field tag v) ≡ switch_of v
unfolding opened
opened_field tag v = refl

-- the first field
module _ (s : List ℕ) (f : Field) (fs : List Field) (is : fields s ≡ f ∷ fs) where
  pub settings_shut : opens f ≡ false → settings_of s ≡ None
  unfolding settings_of
  settings_shut o = rw (settings_of, is, o)

  pub settings_open : opens f ≡ true → settings_of s ≡ settings_from (opened f) fs
  unfolding settings_of
  settings_open o = rw (settings_of, is, o)

pub settings_cut : (s : List ℕ) → field_at s 0 ≡ None → false ≡ known (settings_of s)
unfolding fields settings_of opens
settings_cut s e =
    by_order 0 (length s) (λ some_octet. rw (settings_of, fields_at_cut s 0 some_octet e)) (λ empty. rw (settings_of, fields_at_end s 0 empty))

module _ (s : List ℕ) {r : FieldRead} (e : field_at s 0 ≡ Some r) where
  pub first : fields s ≡ field r.tag (part s 3 (r.next - 3)) ∷ fields_at s r.next
  unfolding fields
  first =
      let i = field_read s 0 r e in
      let the_size : r.next - 3 ≡ r.length = omega arith in
      rw the_size (fields_at_on s 0 r (omega arith) e)

  pub settings_bad_lem : opens (field r.tag (part s 3 (r.next - 3))) ≡ false → false ≡ known (settings_of s)
  settings_bad_lem o = rw (settings_shut s (field r.tag (part s 3 (r.next - 3))) (fields_at s r.next) first o)

-- whatever is made of the nickname and the MAC, no later field changes it
module _ {A : Type 0} (own : ℕ → ℕ → A) where
  switch_with : (S : Settings) (f : Field) → own (with_field S f).nickname (with_field S f).mac ≡ own S.nickname S.mac
  unfolding with_field
  switch_with S cut = refl
  switch_with S (field tag v) = search (either (λ (T : Settings). own T.nickname T.mac ≡ own S.nickname S.mac))

  pub switch_fold : (S : Settings) (fs : List Field) → own (foldl with_field S fs).nickname (foldl with_field S fs).mac ≡ own S.nickname S.mac
  switch_fold S [] = refl
  switch_fold S (f ∷ fs) = switch_fold (with_field S f) fs ∙ switch_with S f
