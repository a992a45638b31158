-- Records in order give each destination the record that rules for it, whatever the hints. By what each step of the search keeps.
use Rattle.std.specs.Prelude.{Option, Some, None}
use Prim.Native.Nat.{ℕ, suc, ◌+◌, ◌-◌, ◌%◌, ◌≤◌, ◌<◌}
use mathlib.Core.Path.{◌≡◌, refl, ◌∙◌}
use mathlib.Core.List.{List}
use mathlib.Core.Bool.{true, false, false≢true}
use native.Mathlib.Omega.{arith}
use borrow.Author.Tests.{ltb-true, leb-true, leb-false}
use lib.Dec.{ltb, leb, eqb}
use Rattle.rules.proofs.TestLaws.{by_test, by_order, by_equal, and_true, tests}
use Rattle.rules.specs.Settings as S
use Rattle.rules.specs.declared.NextHop.{NextHop}
use Rattle.stores.specs
use specs.Store.{second_at, dest_at, hop_at, hops_from, unless_withdrawn, up_to, stepped, searched, last_at, hint_at, index_in, hop_for, Ordered, StandsFor}
use Rattle.stores.proofs.HalvingLaws.{reached, beyond}
use Rattle.stores.proofs.RulingLaws.{rank_rises, newer_rules, row_others, row_below, hops_at, fold_append}

-- the next hop is the record that rules unless it is withdrawn
pub next_hop_lem : (T : S.Settings) (d : ℕ) → S.next_hop T d ≡ unless_withdrawn (S.ruling T.hops d)
unfolding S.next_hop unless_withdrawn
next_hop_lem T d = go (S.ruling T.hops d) refl
  where
    go : (x : Option NextHop) → S.ruling T.hops d ≡ x → S.next_hop T d ≡ unless_withdrawn (S.ruling T.hops d)
    go None e = rw (S.next_hop, e)
    go (Some r) e = rw (S.next_hop, e)

for_it : (w : List ℕ) (n d i : ℕ) → i < n → dest_at w i ≡ d → hop_for w n d i ≡ unless_withdrawn (Some (hop_at w i))
unfolding hop_for unless_withdrawn hop_at
for_it w n d i h e = by_test (eqb (second_at w i % 65536) 0) (λ t. simp (tests, t)) (λ f. simp (tests, f))

-- what is known of an index that the search comes to
record Between (w : List ℕ) (n d at : ℕ) : Type 0 where
  pub low : 0 < at → (at < n) × (dest_at w at ≤ d)
  pub high : (j : ℕ) → at < j → j < n → d < dest_at w j

module _ (w : List ℕ) (n : ℕ) (o : Ordered w n) where
  dest_rises : (i j : ℕ) → i ≤ j → j < n → dest_at w i ≤ dest_at w j
  dest_rises i j h b = omega (arith, rank_rises o i j h b)

  module _ (d : ℕ) where
    up_true : (i : ℕ) → up_to w n d i ≡ true → (i < n) × (dest_at w i ≤ d)
    unfolding up_to
    up_true i t =
        let b = and_true (ltb i n) (leb (dest_at w i) d) t in
        (ltb-true i n b.0, leb-true (dest_at w i) d b.1)

    up_false : (i : ℕ) → up_to w n d i ≡ false → i < n → d < dest_at w i
    unfolding up_to
    up_false i f h = leb-false (dest_at w i) d (simp tests at f)

    up_past : (i : ℕ) → (i < n → d < dest_at w i) → up_to w n d i ≡ false
    unfolding up_to
    up_past i h =
        by_order i n
        (λ l.
        let above = h l in
        simp tests)
        (λ l. simp tests)

    falls : (i j : ℕ) → 0 < i → i ≤ j → up_to w n d i ≡ false → up_to w n d j ≡ false
    falls i j z h f = up_past j (λ l. omega (arith, up_false i f (omega arith), dest_rises i j h l))

    searched_between : Between w n d (searched w n d)
    unfolding stepped
    searched_between =
        let ends = beyond (up_to w n d) falls (λ j h. up_past j (λ l. absurd (omega (arith, o.few)))) in
        record { low = λ z. up_true (searched w n d) (reached (up_to w n d) z); high = λ j h. up_false j (ends j (omega arith)) }

  -- a hint that is taken is where the search ends too
  last_between : (d p : ℕ) → last_at w n d p ≡ true → Between w n d p
  unfolding last_at
  last_between d p t =
      by_order p n
      (λ h. by_equal (dest_at w p) d
      (λ e. record { low = λ z. (h, omega arith); high = later h e })
      (λ e. absurd (false≢true (simp tests at t))))
      (λ h. absurd (false≢true (simp tests at t)))
    where
      later : p < n → dest_at w p ≡ d → (j : ℕ) → p < j → j < n → d < dest_at w j
      later h e j u v =
          let l : p + 1 < n = omega arith in
          by_equal (dest_at w (p + 1)) d
          (λ same. absurd (false≢true (simp tests at t)))
          (λ other. omega (arith, other, dest_rises p (p + 1) (omega arith) l, dest_rises (p + 1) j (omega arith) v))

  ruling_none : (d : ℕ) → ((j : ℕ) → j < n → dest_at w j ≡ d → ⊥) → S.ruling (hops_from w 0 n) d ≡ None
  unfolding S.ruling hop_at
  ruling_none d h = row_others d w n 0 None (λ j a b. h j (omega arith))

  -- the last record of its destination rules
  ruling_at : (d p : ℕ) → p < n → dest_at w p ≡ d → ((j : ℕ) → p < j → j < n → dest_at w j ≡ d → ⊥) → S.ruling (hops_from w 0 n) d ≡ Some (hop_at w p)
  unfolding S.ruling hop_at
  ruling_at d p h e last =
      let before = row_below d w p 0 None (hop_at w p).serial tt (λ j u v g. omega (arith, o.rises j p (omega arith) h)) in
      rw (hops_at w n p h, fold_append)
      (row_others d w (n - suc p) (suc p) _ (λ j u v. last j (omega arith) (omega arith)) ∙ newer_rules d _ (hop_at w p) e before)

  -- a record that a lookup comes to, by a hint or by the search, and what rules
  abbrev Right : ℕ → ℕ → Type 0
  Right d i = hop_for w n d i ≡ unless_withdrawn (S.ruling (hops_from w 0 n) d)

  right_between : (d p : ℕ) → Between w n d p → Right d p
  unfolding hop_for unless_withdrawn
  right_between d p b =
      by_order p n
      (λ u. by_equal (dest_at w p) d
      (λ e. rw (ruling_at d p u e (λ j x v g. absurd (omega (arith, b.high j (omega arith) v)))) (for_it w n d p u e))
      (λ ne. rw (ruling_none d (none u ne)) (simp tests)))
      (λ u. rw (ruling_none d (λ j v g. absurd (omega (arith, b.low (omega arith))))) (simp tests))
    where
      none : p < n → (dest_at w p ≡ d → ⊥) → (j : ℕ) → j < n → dest_at w j ≡ d → ⊥
      none u ne j v g =
          by_order p j (λ l. absurd (omega (arith, b.high j (omega arith) v))) (λ l.
          by_equal j p (λ e. ne (rw e at g)) (λ n. ne (omega (arith, b.low (omega (arith, n)), dest_rises j p l u))))

  right_index : (d : ℕ) → Right d (index_in w n d)
  unfolding index_in
  right_index d =
      by_test (last_at w n d (hint_at w d))
      (λ t. simp (index_in, t) (right_between d (hint_at w d) (last_between d (hint_at w d) t)))
      (λ f. simp (index_in, f) (right_between d (searched w n d) (searched_between d)))

-- records that stand for settings' give each destination the next hop of these
pub serves : (w : List ℕ) (n : ℕ) (T : S.Settings) → StandsFor w n T.hops → (d : ℕ) → hop_for w n d (index_in w n d) ≡ S.next_hop T d
serves w n T s d = rw (next_hop_lem, s.same_ruling d) (right_index w n s.ordered d)
