-- Laws of the text printed: its numbers, what is printed of each description, and that it has 73,741 octets at most. By the tests, and
-- by induction on the fields and on the run.
use mathlib.Core.Path.{◌≡◌, refl}
use mathlib.Core.List.{List, [], ◌∷◌, ◌++◌, Memᴰ}
use Prim.Native.Nat.{ℕ, zero, suc, ◌+◌, ◌-◌, ◌*◌, ◌/◌, ◌%◌, ◌^◌, ◌<◌, ◌≤◌}
use native.Mathlib.Omega.{arith}
use lib.Dec.{ltb}
use lib.ListN.{length, length-append}
use specs.Campus.{Described, refused, accepted, described, State, plain_run}
use specs.Text.{ascii, line_feed, decimal_from, decimal, entry_text, entries_text, printed}
use proofs.TestLaws.{tests, by_test}
use proofs.DescriptionLaws.{described_result, accepted_good}
use proofs.DemandLaws.{plain_most, plain_numbers}
use Rattle.rules.specs
use Rattle.rules.proofs

-- a number's digits
last_digit : (fuel n : ℕ) → 0 < fuel → n < 10 → decimal_from fuel n ≡ (48 + n) ∷ []
unfolding decimal_from
last_digit zero n f h = absurd (omega arith)
last_digit (suc fuel) n f h = simp (decimal_from, tests)

more_digits : (fuel n : ℕ) → 0 < fuel → 10 ≤ n → decimal_from fuel n ≡ decimal_from (fuel - 1) (n / 10) ++ ((48 + n % 10) ∷ [])
unfolding decimal_from
more_digits zero n f h = absurd (omega arith)
more_digits (suc fuel) n f h = let less : suc fuel - 1 ≡ fuel = omega arith in rw less (simp (decimal_from, tests))

digits_most : (k fuel n : ℕ) → n < 10 ^ suc k → length (decimal_from fuel n) ≤ suc k
unfolding decimal_from
digits_most k zero n h = omega arith
digits_most zero (suc fuel) n h = rw (last_digit (suc fuel) n (omega arith) (omega arith)) (omega arith)
digits_most (suc k) (suc fuel) n h =
    by_test (ltb n 10)
    (λ b. rw (decimal_from, b) (omega arith))
    (λ b. rw (decimal_from, b, length-append) (omega (arith, digits_most k fuel (n / 10) (omega arith))))

module _ (n : ℕ) where
  pub decimal_one : n < 10 → (48 + n) ∷ [] ≡ decimal n
  decimal_one h = rw (last_digit (suc n) n (omega arith) h)

  pub decimal_two : 10 ≤ n → n < 100 → (48 + n / 10) ∷ (48 + n % 10) ∷ [] ≡ decimal n
  decimal_two h k = rw (more_digits (suc n) n (omega arith) h, last_digit (suc n - 1) (n / 10) (omega arith) (omega arith))

  pub decimal_three : 100 ≤ n → n < 1000 → (48 + n / 10 / 10) ∷ (48 + n / 10 % 10) ∷ (48 + n % 10) ∷ [] ≡ decimal n
  decimal_three h k =
      rw (
        more_digits (suc n) n (omega arith) (omega arith),
        more_digits (suc n - 1) (n / 10) (omega arith) (omega arith),
        last_digit (suc n - 1 - 1) (n / 10 / 10) (omega arith) (omega arith),
      )

  pub decimal_four : 1000 ≤ n → n < 10000 → (48 + n / 10 / 10 / 10) ∷ (48 + n / 10 / 10 % 10) ∷ (48 + n / 10 % 10) ∷ (48 + n % 10) ∷ [] ≡ decimal n
  decimal_four h k =
      rw (
        more_digits (suc n) n (omega arith) (omega arith),
        more_digits (suc n - 1) (n / 10) (omega arith) (omega arith),
        more_digits (suc n - 1 - 1) (n / 10 / 10) (omega arith) (omega arith),
        last_digit (suc n - 1 - 1 - 1) (n / 10 / 10 / 10) (omega arith) (omega arith),
      )

-- the code of a refusal is not 0, and has two digits
pub refused_ranged : (file : List ℕ) (code : ℕ) → described file ≡ refused code → (0 < code) × (code < 100)
refused_ranged file code e = rw e at (described_result file)

-- a line, and the lines of a run
line_most : (s : State) → s.answer.number < 64 → length (entry_text s) ≤ 18
unfolding entry_text
line_most s h =
    simp length-append (omega (arith, digits_most 1 (suc s.answer.number) s.answer.number (omega arith)))

lines_most : (states : List State) → ((s : State) → Memᴰ s states → s.answer.number < 64) → length (entries_text states) ≤ 18 * length states
unfolding entries_text
lines_most [] h = omega arith
lines_most (s ∷ states) h =
    rw length-append
    (omega (arith, line_most s (h s (Memᴰ.head refl)), lines_most states (λ t i. h t (Memᴰ.tail i))))

module _ (file : List ℕ) where
  pub printed_refused : (code : ℕ) → described file ≡ refused code → printed file ≡ ascii "refused " ++ decimal code ++ (line_feed ∷ [])
  unfolding printed
  printed_refused code e = rw (printed, e)

  pub printed_accepted : (d : Described) → described file ≡ accepted d
      → printed file ≡ entries_text (plain_run d) ++ ascii "handled " ++ decimal (length (plain_run d)) ++ (line_feed ∷ [])
  unfolding printed
  printed_accepted d e = rw (printed, e)

  -- 4,096 lines of 18 octets, and `handled 4096`
  pub printed_most : length (printed file) ≤ 73741
  unfolding ascii
  printed_most =
      elim (described file) as (λ w. described file ≡ w → length (printed file) ≤ 73741) [
        | refused code ↦ λ e.
            rw (printed_refused code e) (simp length-append (omega (arith, digits_most 1 (suc code) code (refused_ranged file code e).1)))
        | accepted d ↦ λ e.
            let a = accepted_good file d e in
            let n = length (plain_run d) in
            let most = plain_most d a in
            rw (printed_accepted d e)
            (simp length-append (omega (arith, lines_most (plain_run d) (plain_numbers d a), digits_most 3 (suc n) n (omega (arith, most)))))
      ] refl
