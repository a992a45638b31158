-- A walk over members of a list that moves by a function until a test first holds is no longer than the list: each member on it has its own
-- distance to the end, and a function takes no more values than it has arguments (pigeonhole).
use Rattle.std.specs.Prelude.{Option, Some, None}
use mathlib.Core.Path.{◌≡◌, sym, ◌∙◌, ap}
use mathlib.Core.List.{List, Memᴰ}
use mathlib.Core.Bool.{Bool, true, false, cond}
use Prim.Native.Nat.{ℕ, zero, suc, ◌≤◌, ◌<◌}
use native.Mathlib.Nat.{not-suc-le-zero}
use native.Mathlib.Omega.{arith}
use borrow.Author.Tests.{eq-eqb, ne_eqb}
use lib.Dec.{eqb}
use lib.ListN.{length, get_or}
use Rattle.rules.proofs.TestLaws.{by_equal}

-- each of 0 .. k-1 is the value of d at some index below n
abbrev Hits : ℕ → ℕ → (ℕ → ℕ) → Type 0
Hits n k d = (t : ℕ) → t < k → (s : ℕ) × (s < n) × (d s ≡ t)

-- x, or v where x is k
abbrev rename : ℕ → ℕ → ℕ → ℕ
rename k v x = cond (eqb x k) v x

-- the index m is not needed once the value k is renamed to d m
fewer : (m k : ℕ) (d : ℕ → ℕ) → Hits (suc m) (suc k) d → Hits m k (λ s. rename k (d m) (d s))
fewer m k d h t lt =
    let a = h t (omega arith) in
    let b = h k (omega arith) in
    by_equal a.0 m
    (λ e.
    let at_m = ap d (sym e) ∙ a.2 in
    let ne : b.0 ≡ m → ⊥ = λ q. let w : d m ≡ k = ap d (sym q) ∙ b.2 in omega arith in
    (b.0, omega arith, rw (eq-eqb (d b.0) k b.2) at_m))
    (λ ne. (a.0, omega arith, rw (ne_eqb (d a.0) k (λ q. omega arith)) a.2))

-- values 0 .. k-1 at indices below n: there are no more values than indices
hits_le : (n k : ℕ) (d : ℕ → ℕ) → Hits n k d → k ≤ n
hits_le n zero d h = omega arith
hits_le zero (suc k) d h = absurd (not-suc-le-zero (h 0 (omega arith)).1)
hits_le (suc m) (suc k) d h = let ih = hits_le m k (λ s. rename k (d m) (d s)) (fewer m k d h) in omega arith

-- the index of a member
index : {A : Type 0} (d : A) {s : A} {l : List A} → Memᴰ s l → (i : ℕ) × (i < length l) × (get_or l i d ≡ s)
index d (Memᴰ.head e) = (0, omega arith, sym e)
index d (Memᴰ.tail m) = let p = index d m in (suc p.0, omega arith, p.2)

-- a walk that arrives, at its k-th member and not before, where the test `ours` holds
pub data Arrives {A : Type 0} (l : List A) (ours : A → Bool) (next : A → Option A) : A → ℕ → Type 0 where
  here : {s : A} → Memᴰ s l → ours s ≡ true → Arrives l ours next s 1
  on : {s t : A} {k : ℕ} → Memᴰ s l → ours s ≡ false → next s ≡ Some t → Arrives l ours next t k → Arrives l ours next s (suc k)

-- how many moves from s to the first member where it holds, looking m moves ahead
dist : {A : Type 0} → (A → Bool) → (A → Option A) → ℕ → A → ℕ
dist ours next zero s = 0
dist ours next (suc m) s = elim (ours s) [ true ↦ 0 | false ↦ elim (next s) [ None ↦ 0 | Some t ↦ suc (dist ours next m t) ] ]

module _ {A : Type 0} (l : List A) (ours : A → Bool) (next : A → Option A) where
  dist_is : {s : A} {k : ℕ} → Arrives l ours next s k → (m : ℕ) → k ≤ m → suc (dist ours next m s) ≡ k
  unfolding dist
  dist_is (here i e) zero h = absurd (not-suc-le-zero h)
  dist_is (here i e) (suc m) h = rw (dist, e)
  dist_is (on i e g a) zero h = absurd (not-suc-le-zero h)
  dist_is (on i e g a) (suc m) h = let ih = dist_is a m (omega arith) in rw (dist, e, g) (ap suc ih)

  hits : (d : A) {s : A} {k : ℕ} → Arrives l ours next s k → (m : ℕ) → k ≤ m → Hits (length l) k (λ i. dist ours next m (get_or l i d))
  hits d (here i e) m h t q =
      let p = index d i in
      (p.0, p.1, rw p.2 (omega (arith, dist_is (here i e) m h)))
  hits d (on {k = k} i e g a) m h t q =
      by_equal t k
      (λ last. let p = index d i in (p.0, p.1, rw p.2 (omega (arith, dist_is (on i e g a) m h))))
      (λ before. hits d a m (omega arith) t (omega arith))

  pub arrives_le : {s : A} {k : ℕ} → Arrives l ours next s k → k ≤ length l
  arrives_le {s} {k} a = hits_le (length l) k (λ i. dist ours next k (get_or l i s)) (hits s a k (omega arith))
