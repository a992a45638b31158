-- What a search by halving comes to: an index at which the test holds, unless it is 0, and behind which it holds nowhere, if it holds nowhere behind
-- one at which it fails. By what each step keeps.
use Rattle.std.specs.Prelude.{if◌then◌else◌}
use Prim.Native.Nat.{ℕ, ◌+◌, ◌*◌, ◌<◌, ◌≤◌}
use mathlib.Core.Path.{◌≡◌}
use mathlib.Core.Bool.{Bool, true, false}
use native.Mathlib.Omega.{arith}
use Rattle.rules.proofs.TestLaws.{by_test}
use Rattle.stores.specs.Halving.{halved, twice_halved, six_times}

module _ (P : ℕ → Bool) where
  abbrev Reached : ℕ → Type 0
  Reached at = 0 < at → P at ≡ true

  abbrev Beyond : ℕ → Type 0
  Beyond at = (j : ℕ) → at ≤ j → P j ≡ false

  step_reached : (at half : ℕ) → Reached at → Reached (halved P at half)
  unfolding halved
  step_reached at half r = by_test (P (at + half)) (λ t. rw t (λ z. t)) (λ f. rw f r)

  pub reached : Reached (six_times P)
  reached =
      let none : Reached 0 = λ z. absurd (omega arith) in
      step_reached _ _ (step_reached _ _ (step_reached _ _ (step_reached _ _ (step_reached _ _ (step_reached _ _ none)))))

  module _ (falls : (i j : ℕ) → 0 < i → i ≤ j → P i ≡ false → P j ≡ false) where
    step_beyond : (at half : ℕ) → 0 < half → Beyond (at + (half + half)) → Beyond (halved P at half + half)
    unfolding halved
    step_beyond at half z b =
        by_test (P (at + half)) (λ t. rw t (λ j h. b j (omega arith))) (λ f. rw f (λ j h. falls (at + half) j (omega arith) h f))

    pub beyond : Beyond 64 → Beyond (six_times P + 1)
    beyond b =
        step_beyond _ _ (omega arith)
        (step_beyond _ _ (omega arith)
        (step_beyond _ _ (omega arith)
        (step_beyond _ _ (omega arith) (step_beyond _ _ (omega arith) (step_beyond _ _ (omega arith) b)))))

  -- two steps, by the tests that they make
  module _ (at half : ℕ) where
    pub twice_on : P (at + 2 * half) ≡ true → twice_halved P at half ≡ (if P (at + 2 * half + half) then at + 2 * half + half else at + 2 * half)
    unfolding halved
    twice_on t = rw t

    pub twice_stay : P (at + 2 * half) ≡ false → twice_halved P at half ≡ (if P (at + half) then at + half else at)
    unfolding halved
    twice_stay f = rw f
