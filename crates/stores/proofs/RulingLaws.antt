-- The record that rules among records in a row: those of other destinations count for nothing, the last of a rising row rules, and the order
-- in which two that differ are seen is no matter. By induction on the row.
use Rattle.std.specs.Prelude.{Option, Some, None}
use Prim.Native.Nat.{ℕ, zero, suc, ◌+◌, ◌-◌, ◌≤◌, ◌<◌}
use mathlib.Core.Path.{◌≡◌, refl, sym, ap, ◌∙◌}
use mathlib.Core.List.{List, [], ◌∷◌, ◌++◌, foldl}
use native.Mathlib.Omega.{arith}
use native.Mathlib.Nat.{zero-add, add-zero}
use borrow.Author.Tests.{ne_eqb}
use Rattle.rules.proofs.TestLaws.{by_order, by_equal, tests}
use Rattle.rules.specs.declared.{NextHop.NextHop}
use Rattle.stores.specs.Store.{rank_at, hop_at, hops_from, Ordered}
use Rattle.rules.specs.Settings as S

-- records in order
pub rank_rises : {w : List ℕ} {n : ℕ} → Ordered w n → (i j : ℕ) → i ≤ j → j < n → rank_at w i ≤ rank_at w j
rank_rises o i j h b =
    by_order i j (λ l. omega (arith, o.rises i j l b)) (λ l.
    let e : i ≡ j = omega arith in
    rw e (omega arith))

module _ (d : ℕ) where
  pub newer_other : (best : Option NextHop) (r : NextHop) → (r.destination ≡ d → ⊥) → S.newer d best r ≡ best
  unfolding S.newer
  newer_other best r h = rw (S.newer, ne_eqb)

  -- no record yet, or one with a serial below m
  abbrev pub Below : ℕ → Option NextHop → Type 0
  Below m None = Unit {0}
  Below m (Some q) = q.serial < m

  pub newer_rules : (best : Option NextHop) (r : NextHop) → r.destination ≡ d → Below r.serial best → S.newer d best r ≡ Some r
  unfolding S.newer
  newer_rules None r e h = simp (S.newer, tests)
  newer_rules (Some q) r e h = simp (S.newer, tests)

  newer_mine : (m : ℕ) (best : Option NextHop) (r : NextHop) → Below m best → r.destination ≡ d → r.serial < m → Below m (S.newer d best r)
  unfolding S.newer
  newer_mine m None r h e k = simp (S.newer, tests) k
  newer_mine m (Some q) r h e k = by_order q.serial r.serial (λ l. simp (S.newer, tests) k) (λ l. simp (S.newer, tests) h)

  pub newer_below : (m : ℕ) (best : Option NextHop) (r : NextHop) → Below m best → (r.destination ≡ d → r.serial < m) → Below m (S.newer d best r)
  newer_below m best r h k = by_equal r.destination d (λ e. newer_mine m best r h e (k e)) (λ n. rw newer_other h)

  -- two that differ may be seen in either order
  newer_turn : (best : Option NextHop) (r q : NextHop) → r.destination ≡ d → q.destination ≡ d → r.serial < q.serial
      → S.newer d (S.newer d best r) q ≡ S.newer d (S.newer d best q) r
  unfolding S.newer
  newer_turn None r q er eq h =
      let k : r.serial ≤ q.serial = omega arith in
      simp (S.newer, tests)
  newer_turn (Some b) r q er eq h =
      let k : r.serial ≤ q.serial = omega arith in
      by_order b.serial r.serial
      (λ l.
      let m : b.serial < q.serial = omega arith in
      simp (S.newer, tests))
      (λ l. by_order b.serial q.serial (λ m. simp (S.newer, tests)) (λ m. simp (S.newer, tests)))

  pub newer_swap : (best : Option NextHop) (r q : NextHop) → (q.destination ≡ r.destination → q.serial ≡ r.serial → ⊥)
      → S.newer d (S.newer d best r) q ≡ S.newer d (S.newer d best q) r
  newer_swap best r q h =
      by_equal r.destination d
      (λ er. by_equal q.destination d
      (λ eq. by_order r.serial q.serial
      (λ l. newer_turn best r q er eq l)
      (λ l. sym (newer_turn best q r eq er (omega (arith, h (eq ∙ sym er))))))
      (λ n. simp newer_other))
      (λ n. simp newer_other)

  -- what each record of a row keeps of two rulings, the whole row keeps
  module _ (w : List ℕ) (R : Option NextHop → Option NextHop → Type 0) where
    pub row_keeps : (k i : ℕ) (x y : Option NextHop) → R x y
        → ((j : ℕ) → i ≤ j → j < i + k → (x y : Option NextHop) → R x y → R (S.newer d x (hop_at w j)) (S.newer d y (hop_at w j)))
        → R (foldl (S.newer d) x (hops_from w i k)) (foldl (S.newer d) y (hops_from w i k))
    unfolding hops_from
    row_keeps zero i x y r step = r
    row_keeps (suc k) i x y r step =
        row_keeps k (suc i) (S.newer d x (hop_at w i)) (S.newer d y (hop_at w i)) (step i (omega arith) (omega arith) x y r)
        (λ j a b. step j (omega arith) (omega arith))

  module _ (w : List ℕ) (k i : ℕ) (best : Option NextHop) where
    pub row_others : ((j : ℕ) → i ≤ j → j < i + k → (hop_at w j).destination ≡ d → ⊥) → foldl (S.newer d) best (hops_from w i k) ≡ best
    row_others h = row_keeps w (λ x y. x ≡ best) k i best best refl (λ j a b x y e. newer_other x (hop_at w j) (h j a b) ∙ e)

    pub row_below : (m : ℕ) → Below m best → ((j : ℕ) → i ≤ j → j < i + k → (hop_at w j).destination ≡ d → (hop_at w j).serial < m)
        → Below m (foldl (S.newer d) best (hops_from w i k))
    row_below m b h = row_keeps w (λ x y. Below m x) k i best best b (λ j a c x y e. newer_below m x (hop_at w j) e (h j a c))

    -- a record may be seen after a row as well as before it
    pub row_slide : (r : NextHop) → ((j : ℕ) → i ≤ j → j < i + k → (hop_at w j).destination ≡ r.destination → (hop_at w j).serial ≡ r.serial → ⊥)
        → foldl (S.newer d) (S.newer d best r) (hops_from w i k) ≡ S.newer d (foldl (S.newer d) best (hops_from w i k)) r
    row_slide r h =
        row_keeps w (λ x y. x ≡ S.newer d y r) k i (S.newer d best r) best refl
        (λ j a b x y e. rw e (newer_swap y r (hop_at w j) (h j a b)))

-- a row in two parts, and at a record of it
pub hops_split : (w : List ℕ) (a i b : ℕ) → hops_from w i (a + b) ≡ hops_from w i a ++ hops_from w (i + a) b
unfolding hops_from
hops_split w zero i b = rw (zero-add, add-zero)
hops_split w (suc a) i b =
    let e : suc i + a ≡ i + suc a = omega arith in
    let f : suc a + b ≡ suc (a + b) = omega arith in
    rw (f, ← e, hops_split w a (suc i) b)

pub hops_at : (w : List ℕ) (n p : ℕ) → p < n → hops_from w 0 n ≡ hops_from w 0 p ++ (hop_at w p ∷ hops_from w (suc p) (n - suc p))
unfolding hops_from
hops_at w n p h =
    let e : n ≡ p + suc (n - suc p) = omega arith in
    ap (hops_from w 0) e ∙ hops_split w p 0 (suc (n - suc p)) ∙ rw zero-add

pub fold_append : {A B : Type 0} (f : A → B → A) (x : A) (l m : List B) → foldl f x (l ++ m) ≡ foldl f (foldl f x l) m
fold_append f x [] m = refl
fold_append f x (b ∷ l) m = fold_append f (f x b) l m
