-- A function that tests as its definition does, and the codes of refusals. By cases on the tests.
use Prim.Native.Nat.{ℕ}
use mathlib.Core.Path.{◌≡◌, refl}
use mathlib.Core.Bool.{Bool, true, false, not, cond, ◌&&◌}
use lib.Dec.{eqb}
use borrow.Author.Rules.{rules}
use Rattle.rules.proofs.TestLaws.{tests}

-- a function that makes the tests of its definition one after another, with that definition unfolded
pub ruleset test_laws = (rules, tests)

-- a code that is not 0 is given where its test says so
pub coded : (b : Bool) (n x : ℕ) → eqb n 0 ≡ false → eqb (cond b n x) 0 ≡ (not b && eqb x 0)
coded true n x e = e
coded false n x e = refl
