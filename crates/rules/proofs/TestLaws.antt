-- Laws of tests: cases on one, what holds either way of it or down a chain of them, what a conjunction or a disjunction says of its parts, and what
-- holds of each member of a list or each number below another. By cases.
use Rattle.std.specs.Prelude.{Option, Some, None}
use mathlib.Core.Path.{◌≡◌, refl}
use mathlib.Core.Bool.{Bool, true, false, ◌&&◌, ◌||◌, cond}
use mathlib.Core.List.{List, ◌∷◌, Memᴰ}
use Prim.Native.Nat.{ℕ, zero, suc, ◌<◌, ◌≤◌}
use native.Mathlib.Omega.{arith}
use borrow.Author.Tests.{lt-ltb, le-ltb, le-leb, lt-leb, eq-eqb, ne_eqb, ltb-true, ltb-false, eqb-true, eqb-false}
use lib.Dec.{ltb, eqb}

-- the value of each test whose fact is in scope, for `simp`
pub ruleset tests = (lt-ltb, le-ltb, le-leb, lt-leb, eq-eqb, ne_eqb)

-- two constructors are never equal: `cc` then proves 0 ≡ 1
pub apart : {X : Type 0} → ◌≡◌ {A = ℕ} 0 1 → X
apart e = absurd (omega arith)

pub by_test : {X : Type 0} (b : Bool) → (b ≡ true → X) → (b ≡ false → X) → X
by_test true t f = t refl
by_test false t f = f refl

-- two numbers, by their order, or whether they are equal
pub by_order : {X : Type 0} (a b : ℕ) → (a < b → X) → (b ≤ a → X) → X
by_order a b less more = by_test (ltb a b) (λ t. less (ltb-true a b t)) (λ t. more (ltb-false a b t))

pub by_equal : {X : Type 0} (a b : ℕ) → (a ≡ b → X) → ((a ≡ b → ⊥) → X) → X
by_equal a b same other = by_test (eqb a b) (λ t. same (eqb-true a b t)) (λ t. other (eqb-false a b t))

-- what holds either way of a test: `search` goes through a chain of tests by it
pub either : {A : Type 0} (P : A → Type 0) (b : Bool) (x y : A) → (b ≡ true → P x) → (b ≡ false → P y) → P (cond b x y)
either P true x y t f = t refl
either P false x y t f = f refl

-- what holds where a chain of tests gives no number
abbrev pub IfNone : Type 0 → ℕ → Type 0
IfNone X zero = X
IfNone X (suc n) = Unit {0}

pub by_option : {A X : Type 0} (w : Option A) → (w ≡ None → X) → ((a : A) → w ≡ Some a → X) → X
by_option None n s = n refl
by_option (Some a) n s = s a refl

pub and_true : (a b : Bool) → (a && b) ≡ true → (a ≡ true) × (b ≡ true)
and_true true true e = (refl, refl)
and_true true false e = apart cc
and_true false b e = apart cc

-- one part alone: `search` takes a conjunction or a disjunction apart by these
pub and_left : (a b : Bool) → (a && b) ≡ true → a ≡ true
and_left a b e = (and_true a b e).0

pub and_right : (a b : Bool) → (a && b) ≡ true → b ≡ true
and_right a b e = (and_true a b e).1

pub or_false : (a b : Bool) → (a || b) ≡ false → (a ≡ false) × (b ≡ false)
or_false false false e = (refl, refl)
or_false false true e = apart cc
or_false true b e = apart cc

pub or_left : (a b : Bool) → (a || b) ≡ false → a ≡ false
or_left a b e = (or_false a b e).0

pub or_right : (a b : Bool) → (a || b) ≡ false → b ≡ false
or_right a b e = (or_false a b e).1

pub and_no : (a : Bool) → (a && false) ≡ false
and_no true = refl
and_no false = refl

pub or_yes : (a : Bool) → (a || true) ≡ true
or_yes true = refl
or_yes false = refl

pub and_yes : (a : Bool) → (a && true) ≡ a
and_yes true = refl
and_yes false = refl

pub or_no : (a : Bool) → (a || false) ≡ a
or_no true = refl
or_no false = refl

pub or_assoc : (a b c : Bool) → ((a || b) || c) ≡ (a || (b || c))
or_assoc true b c = refl
or_assoc false b c = refl

-- what holds of a list's first and of those after it holds of each
pub each_of : {A : Type 0} (P : A → Type 0) {x : A} {l : List A} → P x → ((y : A) → Memᴰ y l → P y) → (y : A) → Memᴰ y (x ∷ l) → P y
each_of P p ps y (Memᴰ.head e) = rw e p
each_of P p ps y (Memᴰ.tail i) = ps y i

-- a test of every number below n: computed once, it holds of each
abbrev pub every_below : ℕ → (ℕ → Bool) → Bool
every_below zero test = true
every_below (suc n) test = test n && every_below n test

pub each_below : (n : ℕ) (test : ℕ → Bool) → every_below n test ≡ true → (k : ℕ) → k < n → test k ≡ true
each_below zero test e k h = absurd (omega arith)
each_below (suc n) test e k h =
    let both = and_true (test n) (every_below n test) e in
    by_equal k n (λ same. rw same both.0) (λ other. each_below n test both.1 k (omega arith))
