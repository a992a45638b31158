-- What a good store has, where a search or a hint leads, and that there is no record for others: one law for each test of the definitions. By computation.
use Rattle.std.specs.Prelude.{None}
use Prim.Native.Nat.{ℕ, ◌+◌, ◌*◌, ◌≤◌, ◌<◌}
use mathlib.Core.Path.{◌≡◌}
use mathlib.Core.List.{List}
use mathlib.Core.Bool.{Bool, true, false}
use native.Mathlib.Omega.{arith}
use borrow.Author.Tests.{leb-true}
use lib.ListN.{length}
use Rattle.rules.proofs.TestLaws.{tests, and_left, and_right}
use Rattle.stores.specs.Halving.{halved}
use Rattle.stores.specs.Store.{nickname_in, count_in, dest_at, up_to, stepped, searched, last_at, hint_at, index_in, hop_for, store_good, Whole}

-- what a good store has
pub good_whole : (w : List ℕ) → store_good w ≡ true → Whole w
unfolding store_good
good_whole w e =
    record {
      named = omega (arith, leb-true (nickname_in w) 0xFFBF (search (and_left, and_right)));
      few = leb-true (count_in w) 64 (search (and_left, and_right));
      long = leb-true (4 + 2 * count_in w) (length w) (search (and_left, and_right));
    }

-- the search
module _ (w : List ℕ) (n d at half : ℕ) where
  pub step_past : n ≤ at + half → at ≡ stepped w n d at half
  unfolding stepped halved up_to
  step_past h = simp tests

  module _ (a : at + half < n) (dest : ℕ) (is : dest ≡ dest_at w (at + half)) where
    pub step_up : dest ≤ d → at + half ≡ stepped w n d at half
    unfolding stepped halved up_to
    step_up h = simp (← is, tests)

    pub step_stay : d < dest → at ≡ stepped w n d at half
    unfolding stepped halved up_to
    step_stay h = simp (← is, tests)

-- the index that a hint or the search comes to
module _ (w : List ℕ) (n d i : ℕ) (e : i ≡ hint_at w d) (last : Bool) (is : last ≡ last_at w n d i) where
  pub index_hinted : last ≡ true → i ≡ index_in w n d
  unfolding index_in
  index_hinted t = rw (index_in, ← e, ← is, t)

  pub index_searched : last ≡ false → (r : ℕ) → r ≡ searched w n d → r ≡ index_in w n d
  unfolding index_in
  index_searched t r s = rw (index_in, ← e, ← is, t) s

-- the record there
module _ (w : List ℕ) (n d i : ℕ) where
  pub for_past : n ≤ i → None ≡ hop_for w n d i
  unfolding hop_for
  for_past h = simp tests

  module _ (a : i < n) (dest : ℕ) (is : dest ≡ dest_at w i) where
    pub for_other : (dest ≡ d → ⊥) → None ≡ hop_for w n d i
    unfolding hop_for
    for_other h = simp (← is, tests)
