-- T-07: "After any sequence of handlings from zero the sum of the answer counters equals the number of handlings in the history, each counter
-- the number of its own answer, and so the total."
use Rattle.std.specs.Prelude.{ℕ, suc, ◌+◌, ◌<◌, ◌≡◌, List, [], ◌∷◌, length, get_or, replicate, eqb, if◌then◌else◌}
use Rattle.counters.specs.Counting.{Call, counted}
use Rattle.counters.specs.declared.Counters.{Counters}

abbrev pub zeroed : Counters
zeroed = record { by_answer = replicate 64 0; total = 0 }

-- the counters once every call was made, one after another
unfoldable pub counters_after : Counters → List Call → Counters
counters_after c [] = c
counters_after c (x ∷ xs) = counters_after (counted c x).counters xs

-- the numbers answered, in order
unfoldable pub answers : Counters → List Call → List ℕ
answers c [] = []
answers c (x ∷ xs) = (counted c x).answer.number ∷ answers (counted c x).counters xs

-- "such a call is no handling of the history": the answers but 4
unfoldable pub handlings : List ℕ → List ℕ
handlings [] = []
handlings (n ∷ ns) = if eqb n 4 then handlings ns else n ∷ handlings ns

unfoldable pub occurrences : ℕ → List ℕ → ℕ
occurrences k [] = 0
occurrences k (n ∷ ns) = if eqb n k then suc (occurrences k ns) else occurrences k ns

unfoldable pub sum : List ℕ → ℕ
sum [] = 0
sum (n ∷ ns) = n + sum ns

-- the claim over a list of calls
pub record Tallied (xs : List Call) : Type 0 where
  pub all : sum (counters_after zeroed xs).by_answer ≡ length (handlings (answers zeroed xs))
  pub each : (k : ℕ) → k < 64 → get_or (counters_after zeroed xs).by_answer k 0 ≡ occurrences k (handlings (answers zeroed xs))
  pub total : (counters_after zeroed xs).total ≡ length (handlings (answers zeroed xs))
