-- The history theorem: from zero, the sum of the answer counters is the number of handlings, each counter that of its own answer, and the total
-- their number. By induction over the calls, from any counters.
use mathlib.Core.Path.{◌≡◌, refl, sym, ap, ◌∙◌}
use mathlib.Core.List.{List, [], ◌∷◌}
use mathlib.Core.Bool.{true≢false}
use Prim.Native.Nat.{ℕ, zero, suc, ◌+◌, ◌<◌}
use native.Mathlib.Omega.{arith}
use borrow.Author.Tests.{ne_eqb, eqb-true, eqb-false}
use lib.Dec.{eqb}
use lib.ListN.{length, get_or, set, length-set, get_or-replicate}
use lib.Seq.{get_or-set_same, get_or-set_other}
use Rattle.rules.specs.Answer.{given}
use Rattle.rules.proofs.{TestLaws.by_test, HandledLaws.handled_bounded}
use Rattle.counters.proofs.CountLaws.{counted_full, counted_open}
use Rattle.counters.specs
use specs.Counting.{full, one_more, Call, uncounted}
use specs.History.{zeroed, counters_after, answers, handlings, occurrences, sum, Tallied}
use specs.declared.Counters.{Counters}

-- every answer's number has a counter, and none is 4
small : (x : Call) → (uncounted x).number < 64
small x = (handled_bounded x.settings x.clock x.room x.beside_room x.frame).number_small

not_four : (x : Call) → (uncounted x).number ≡ 4 → ⊥
unfolding given
not_four x e = true≢false (sym (rw e at (handled_bounded x.settings x.clock x.room x.beside_room x.frame).listed))

-- one more in one counter is one more in the sum
sum_one_more : (l : List ℕ) (i : ℕ) → i < length l → sum (set l i (get_or l i 0 + 1)) ≡ suc (sum l)
unfolding sum
sum_one_more [] i h = absurd (omega arith)
sum_one_more (n ∷ l) zero h = omega arith
sum_one_more (n ∷ l) (suc i) h = omega (arith, sum_one_more l i (omega arith))

-- and one more occurrence of that counter alone
each_one_more : (l : List ℕ) (n : ℕ) → n < length l → (k : ℕ) (ns : List ℕ)
    → get_or (set l n (get_or l n 0 + 1)) k 0 + occurrences k ns ≡ get_or l k 0 + occurrences k (n ∷ ns)
unfolding occurrences
each_one_more l n h k ns =
    by_test (eqb n k)
    (λ t.
    let e = eqb-true n k t in
    let same : occurrences n ns ≡ occurrences k ns = ap (λ (m : ℕ). occurrences m ns) e in
    rw (t, ← e, get_or-set_same l n (get_or l n 0 + 1) 0 h) (omega (arith, same)))
    (λ t. rw (t, get_or-set_other l n k (get_or l n 0 + 1) 0 (λ e. eqb-false n k t (sym e))))

-- counters d grown out of c by handlings
record Grown (c d : Counters) (ns : List ℕ) : Type 0 where
  all : sum d.by_answer ≡ sum c.by_answer + length ns
  each : (k : ℕ) → k < 64 → get_or d.by_answer k 0 ≡ get_or c.by_answer k 0 + occurrences k ns
  total : d.total ≡ c.total + length ns

grown : (xs : List Call) (c : Counters) → length c.by_answer ≡ 64 → Grown c (counters_after c xs) (handlings (answers c xs))
unfolding counters_after answers handlings occurrences one_more
grown [] c whole = record { all = omega arith; each = λ k h. omega arith; total = omega arith }
grown (x ∷ xs) c whole =
    by_test (full c)
    (λ e. rw (counted_full c x e) (grown xs c whole))
    (λ e.
    let n = (uncounted x).number in
    let counted : n < length c.by_answer = omega (arith, small x) in
    let g = grown xs (one_more c n) (rw length-set whole) in
    rw (counted_open c x e, ne_eqb n 4 (not_four x))
    (record {
      all = omega (arith, g.all, sum_one_more c.by_answer n counted);
      each = λ k h. g.each k h ∙ each_one_more c.by_answer n counted k (handlings (answers (one_more c n) xs));
      total = omega (arith, g.total);
    }))

pub history : (xs : List Call) → Tallied xs
unfolding sum
history xs =
    let g = grown xs zeroed refl in
    record { all = omega (arith, g.all); each = λ k h. omega (arith, g.each k h, get_or-replicate {A = ℕ} 64 k 0 0 h); total = omega (arith, g.total) }
