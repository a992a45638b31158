-- The scan of the counters, one more answer counted, and one law for each way out of the counted call. By the tests in their order and by
-- induction over the counters.
use mathlib.Core.Path.{◌≡◌, refl, sym, ◌∙◌}
use mathlib.Core.List.{List, [], ◌∷◌}
use mathlib.Core.Bool.{Bool, true, false, ◌||◌}
use Prim.Native.Nat.{ℕ, zero, suc, ◌+◌, ◌<◌, ◌≤◌}
use native.Mathlib.Omega.{arith}
use native.Mathlib.Numerals.{add-one}
use borrow.Author.Rules.{rules}
use borrow.Author.Tests.{eqb-true, eqb-false, ne_eqb, lt-leb}
use lib.Bits.{bit_or, or_add_and, and_le_l, and_le_r}
use lib.Dec.{eqb, leb}
use mir.Val.{Fits}
use mir.Syntax.{w64}
use lib.ListN.{length, get_or, set, drop}
use lib.Seq.{drop-cons, drop-length}
use Rattle.rules.specs.{Answer.dropped, Handling.handled}
use Rattle.rules.proofs.TestLaws.{by_test, or_false, or_no, or_assoc}
use Rattle.rules.proofs.{OctetLaws.put_none, HandledLaws.handled_bounded}
use Rattle.handler.specs.{Shapes.answer_of, Tasks.Both}
use Rattle.handler.specs.declared.answers.Answer.{Answer}
use Rattle.counters.specs
use specs.Counting.{greatest, Above, some_greatest, full, one_more, Call, uncounted, counted, CallDone}
use specs.declared.Counters.{Counters}

-- the scan: what was found so far and the counters from the i-th on hold make up the whole
pub record Scanning (c : Counters) (found : Bool) (i : ℕ) : Type 0 where
  pub within : i ≤ 64
  pub rest : (found || some_greatest (drop i c.by_answer)) ≡ full c

module _ (c : Counters) where
  pub scan_begins : Scanning c (eqb c.total greatest) 0
  unfolding full
  scan_begins = record { within = omega arith; rest = refl }

  module _ (found : Bool) (i : ℕ) (s : Scanning c found i) (whole : length c.by_answer ≡ 64) where
    pub scan_goes_on : i < 64 → Scanning c (found || eqb (get_or c.by_answer i 0) greatest) (i + 1)
    scan_goes_on h = record { within = omega arith; rest = rw (add-one, or_assoc) (rw (drop-cons c.by_answer i 0 (omega (arith, whole))) at s.rest) }

    pub scan_ends : 64 ≤ i → found ≡ full c
    scan_ends h =
        let e : i ≡ length c.by_answer = omega (arith, s.within, whole) in
        rw (e, drop-length, or_no) at s.rest

pub ruleset some_greatest_laws = (rules, scan_begins, scan_goes_on, scan_ends)

-- the bits met: what was met so far is above the total and the counters passed
pub record Meeting (c : Counters) (met i : ℕ) : Type 0 where
  pub within : i ≤ 64
  pub over : c.total ≤ met
  pub each : (j : ℕ) → j < i → get_or c.by_answer j 0 ≤ met

module _ (c : Counters) where
  pub meeting_begins : Meeting c c.total 0
  meeting_begins = record { within = omega arith; over = omega arith; each = λ j h. absurd (omega arith) }

  module _ (met i : ℕ) (m : Meeting c met i) where
    pub meeting_goes_on : i < 64 → Meeting c (bit_or met (get_or c.by_answer i 0)) (i + 1)
    meeting_goes_on h =
        let n = get_or c.by_answer i 0 in
        let up : met ≤ bit_or met n = omega (arith, or_add_and met n, and_le_r met n) in
        let new : n ≤ bit_or met n = omega (arith, or_add_and met n, and_le_l met n) in
        record {
          within = omega arith;
          over = omega (arith, m.over);
          each = λ j k. by_test (eqb j i) (λ t. rw (eqb-true j i t) new) (λ t. omega (arith, m.each j (omega (arith, eqb-false j i t))));
        }

    pub meeting_ends : 64 ≤ i → Above c met
    meeting_ends h = record { over = m.over; each = λ j k. m.each j (omega arith) }

pub ruleset bits_met_laws = (rules, meeting_begins, meeting_goes_on, meeting_ends)

-- below the highest bit no word is at its greatest value
none_above : (ns : List ℕ) (r : ℕ) → r < greatest → ((i : ℕ) → i < length ns → get_or ns i 0 ≤ r) → some_greatest ns ≡ false
none_above [] r h e = refl
none_above (n ∷ ns) r h e = rw (ne_eqb n greatest (omega (arith, e 0 (omega arith)))) (none_above ns r h (λ i k. e (suc i) (omega arith)))

module _ (c : Counters) where
  pub none_full : (r : ℕ) → Above c r → length c.by_answer ≡ 64 → r < 9223372036854775808 → leb 9223372036854775808 r ≡ full c
  unfolding full
  none_full r a whole h =
      rw (lt-leb 9223372036854775808 r h, ne_eqb c.total greatest (omega (arith, a.over)), none_above c.by_answer r (omega arith) (λ i k. a.each i (omega (arith, whole))))

pub ruleset full_laws = (rules, none_full)

-- no counter at its greatest value
none_greatest : (ns : List ℕ) (i : ℕ) → some_greatest ns ≡ false → i < length ns → get_or ns i 0 ≡ greatest → ⊥
none_greatest [] i e h g = absurd (omega arith)
none_greatest (n ∷ ns) zero e h g = eqb-false n greatest (or_false (eqb n greatest) (some_greatest ns) e).0 g
none_greatest (n ∷ ns) (suc i) e h g = none_greatest ns i (or_false (eqb n greatest) (some_greatest ns) e).1 (omega arith) g

module _ (c : Counters) (open_ : full c ≡ false) where
  parts : (eqb c.total greatest ≡ false) × (some_greatest c.by_answer ≡ false)
  unfolding full
  parts = or_false (eqb c.total greatest) (some_greatest c.by_answer) open_

  pub total_fits : Fits w64 c.total → Fits w64 (c.total + 1)
  total_fits h = record { fits = omega (arith, h.fits, eqb-false c.total greatest parts.0) }

  pub counter_fits : (i : ℕ) → i < length c.by_answer → Fits w64 (get_or c.by_answer i 0) → Fits w64 (get_or c.by_answer i 0 + 1)
  counter_fits i s h = record { fits = omega (arith, h.fits, none_greatest c.by_answer i parts.1 s) }

pub counted_one : (c : Counters) (number : ℕ)
    → record { by_answer = set c.by_answer number (get_or c.by_answer number 0 + 1); total = c.total + 1 } ≡ one_more c number
unfolding one_more
counted_one c number = refl

pub ruleset one_more_laws = (rules, total_fits, counter_fits, counted_one)

-- every answer's number has a counter
pub number_small : (settings clock : List ℕ) (room beside_room : ℕ) (f : List ℕ) (a : Answer) (out out' beside beside' : List ℕ)
    → Both (handled settings clock room beside_room f) a out out' beside beside' → a.number < 64
number_small settings clock room beside_room f a out out' beside beside' b =
    rw b.answer (handled_bounded settings clock room beside_room f).number_small

-- the two outcomes of a call
module _ (c : Counters) (x : Call) where
  pub counted_full : full c ≡ true → counted c x ≡ record { answer = dropped 4; counters = c }
  unfolding counted
  counted_full e = rw e

  pub counted_open : full c ≡ false → counted c x ≡ record { answer = uncounted x; counters = one_more c (uncounted x).number }
  unfolding counted
  counted_open e = rw e

module _ (c : Counters) (x : Call) (found : Bool) (is : found ≡ full c) (r : Answer) (out beside : List ℕ) where
  pub refuses : found ≡ true → r ≡ answer_of (dropped 4) → CallDone (counted c x) r c out out beside beside
  refuses t d =
      rw (counted_full c x (sym is ∙ t))
      (record { both = record { answer = d; after = sym (put_none out 0); after_beside = sym (put_none beside 0) }; counters = refl })

  pub counts_one : found ≡ false → (out' beside' : List ℕ) (after : Counters) → Both (uncounted x) r out out' beside beside'
      → after ≡ one_more c r.number → CallDone (counted c x) r after out out' beside beside'
  counts_one f out' beside' after b e = rw (counted_open c x (sym is ∙ f)) (record { both = b; counters = rw (e, b.answer) })

pub ruleset count_laws = (rules, number_small, refuses, counts_one)
