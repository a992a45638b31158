-- Settings that are not bad are what their fields say, by induction on the fields.
use Rattle.std.specs.Prelude.{Some, None}
use mathlib.Core.Path.{◌≡◌, refl, sym, ◌∙◌}
use mathlib.Core.List.{List, [], ◌∷◌, foldl}
use mathlib.Core.Bool.{true, false}
use Prim.Native.Nat.{ℕ}
use specs.Fields.{Field, fields}
use specs.Settings.{Settings, with_field, opens, continues, opened, settings_from, settings_of, settings_read}
use Rattle.rules.proofs.TestLaws.{apart, by_test}
use Rattle.rules.specs

module _ (S : Settings) (f : Field) (fs : List Field) where
  pub from_on : continues S f ≡ true → settings_from S (f ∷ fs) ≡ settings_from (with_field S f) fs
  unfolding settings_from
  from_on e = rw (settings_from, e)

  pub from_bad : continues S f ≡ false → settings_from S (f ∷ fs) ≡ None
  unfolding settings_from
  from_bad e = rw (settings_from, e)

pub from_read : (S T : Settings) (fs : List Field) → settings_from S fs ≡ Some T → foldl with_field S fs ≡ T
unfolding settings_from
from_read S T [] e = cc
from_read S T (f ∷ fs) e =
    by_test (continues S f)
    (λ c. from_read (with_field S f) T fs (sym (from_on S f fs c) ∙ e))
    (λ c. apart (cc (from_bad S f fs c)))

pub settings_read_lem : (octets : List ℕ) (T : Settings) → settings_of octets ≡ Some T → settings_read octets ≡ T
unfolding settings_of settings_read
settings_read_lem octets T e =
    elim (fields octets) as (λ w. fields octets ≡ w → settings_read octets ≡ T) [
      | [] ↦ λ is. apart (cc (rw (settings_of, is) at e))
      | f ∷ fs ↦ λ is.
          by_test (opens f)
          (λ o. rw (settings_read, is) (from_read (opened f) T fs (rw (settings_of, is, o) at e)))
          (λ o. apart (cc (rw (settings_of, is, o) at e)))
    ] refl
