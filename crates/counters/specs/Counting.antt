-- T-07: "one counter for each answer number, 64 bits, and a total"; what one call answers, writes and counts.
use Rattle.std.specs.Prelude.{ℕ, ◌+◌, ◌≤◌, ◌<◌, ◌≡◌, List, Bool, ◌||◌, length, get_or, set, eqb, if◌then◌else◌}
use Rattle.std.specs.List.{list_any}
use Rattle.rules.specs.Answer.{Handled, dropped}
use Rattle.rules.specs.Handling.{handled}
use Rattle.handler.specs.Tasks.{Both}
use Rattle.handler.specs.declared.answers.Answer.{Answer}
use Rattle.counters.specs.declared.Counters.{Counters}

-- the greatest value of 64 bits
abbrev pub greatest : ℕ
greatest = 18446744073709551615

-- a number above all of them
pub record Above (c : Counters) (r : ℕ) : Type 0 where
  pub over : c.total ≤ r
  pub each : (i : ℕ) → i < 64 → get_or c.by_answer i 0 ≤ r

abbrev pub some_greatest : List ℕ → Bool
some_greatest ns = list_any (λ n. eqb n greatest) ns

-- "some counter or the total at its greatest value": any of the 64 counters, those of numbers never given too
unfoldable pub full : Counters → Bool
full c = eqb c.total greatest || some_greatest c.by_answer

-- one more answer of this number
unfoldable pub one_more : Counters → ℕ → Counters
one_more c number = record { by_answer = set c.by_answer number (get_or c.by_answer number 0 + 1); total = c.total + 1 }

-- what a call is lent: settings octets, clock, the lengths of the two buffers, frame
pub record Call : Type 0 where
  pub settings : List ℕ
  pub clock : List ℕ
  pub room : ℕ
  pub beside_room : ℕ
  pub frame : List ℕ

abbrev pub call_of : List ℕ → List ℕ → List ℕ → List ℕ → List ℕ → Call
call_of settings clock out beside frame = record { settings = settings; clock = clock; room = length out; beside_room = length beside; frame = frame }

-- what a call comes to: its answer, with what it writes, and the counters after it
pub record Outcome : Type 0 where
  pub answer : Handled
  pub counters : Counters

-- "Handling without counters stays; 4 apart, the answers are the same."
abbrev pub uncounted : Call → Handled
uncounted x = handled x.settings x.clock x.room x.beside_room x.frame

-- "4, some counter or the total at its greatest value, tested before 1; such a call .. changes nothing"
unfoldable pub counted : Counters → Call → Outcome
counted c x =
    if full c then record { answer = dropped 4; counters = c }
    else record { answer = uncounted x; counters = one_more c (uncounted x).number }

-- the answer of whoever calls, the counters and both buffers after it
pub record CallDone (a : Outcome) (r : Answer) (after : Counters) (out out' beside beside' : List ℕ) : Type 0 where
  pub both : Both a.answer r out out' beside beside'
  pub counters : after ≡ a.counters
