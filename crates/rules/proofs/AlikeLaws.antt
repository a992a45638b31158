-- Runs over switches that say the same to a handling have the same entries: nickname for nickname one way to every destination. By induction on
-- the handlings.
use Rattle.std.specs.Prelude.{Option, Some, None}
use mathlib.Core.Path.{◌≡◌, refl, sym, ap}
use mathlib.Core.List.{List, [], ◌∷◌}
use Prim.Native.Nat.{ℕ, zero, suc}
use lib.ListN.{length}
use specs.Settings.{Settings, Ways, ways_of}
use specs.Handling.{handling}
use specs.Campus.{switch_named, Kind, State, Waiting, in_campus, over, next, next_after, run_from, entry_octets, trace_octets}
use proofs.NextLaws.{next_alike}
use proofs.RunLaws.{state, rest, run_none, run_unknown, run_step}
use Rattle.rules.specs
use Rattle.rules.proofs

-- two switches found, or none
abbrev pub Both : Option Settings → Option Settings → Type 0
Both None None = Unit {0}
Both None (Some T) = ⊥
Both (Some S) None = ⊥
Both (Some S) (Some T) = ways_of S ≡ ways_of T

-- the entries of two runs
pub record Same (a b : List State) : Type 0 where
  pub count : length a ≡ length b
  pub trace : trace_octets a ≡ trace_octets b

same_none : Same [] []
same_none = record { count = refl; trace = refl }

by_both : {X : Type 0} (o p : Option Settings) → Both o p → (o ≡ None → p ≡ None → X)
    → ((S T : Settings) → o ≡ Some S → p ≡ Some T → ways_of S ≡ ways_of T → X) → X
by_both None None b neither each = neither refl refl
by_both None (Some T) b neither each = absurd b
by_both (Some S) None b neither each = absurd b
by_both (Some S) (Some T) b neither each = each S T refl refl b

module _ (l m : List Settings) (alike : (n : ℕ) → Both (switch_named l n) (switch_named m n)) (clock : List ℕ) where
  known_alike : (n : ℕ) → in_campus l n ≡ in_campus m n
  known_alike n = by_both (switch_named l n) (switch_named m n) (alike n) (λ x y. rw (x, y)) (λ S T x y e. rw (x, y))

  module _ (i : ℕ) (S T : Settings) (e : ways_of S ≡ ways_of T) (kind : Kind) (f : List ℕ) where
    entry_same : entry_octets (state l clock i S kind f) ≡ entry_octets (state m clock i T kind f)
    unfolding entry_octets
    entry_same = rw (e, ap (λ (y : Ways). y.nickname) e)

    same_more : (a b : List State) → Same a b → Same (state l clock i S kind f ∷ a) (state m clock i T kind f ∷ b)
    unfolding trace_octets
    same_more a b s = record { count = ap suc s.count; trace = rw (entry_same, s.trace) }

  pub run_alike : (fuel i n : ℕ) (kind : Kind) (f : List ℕ) (q : List Waiting) → Same (run_from fuel i l clock n kind f q) (run_from fuel i m clock n kind f q)
  unfolding rest
  run_alike zero i n kind f q = simp run_none same_none
  run_alike (suc fuel) i n kind f q =
      by_both (switch_named l n) (switch_named m n) (alike n)
      (λ x y. simp run_unknown same_none)
      (λ S T x y e.
      let other : next_after m kind q (handling (ways_of T) clock f) ≡ next_after l kind q (handling (ways_of S) clock f) =
      rw (← e) (sym (next_alike l m known_alike kind q (handling (ways_of S) clock f))) in
      rw (run_step l clock fuel i n kind f q S x, run_step m clock fuel i n kind f q T y, other)
      (same_more i S T e kind f _ _
      (elim (next_after l kind q (handling (ways_of S) clock f)) as (λ z. Same (rest l clock fuel i z) (rest m clock fuel i z)) [
        | over ↦ same_none
        | next n' k g r ↦ run_alike fuel (suc i) n' k g r
      ])))
