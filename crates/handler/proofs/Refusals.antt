-- The header's refusals, and a frame to our MAC.
use Prim.Native.Nat.{ℕ, ◌/◌}
use mathlib.Core.Path.{◌≡◌}
use mathlib.Core.List.{List}
use native.Mathlib.Omega.{arith}
use borrow.Author.Rules.{rules}
use Rattle.rules.specs.Octets.{be48}
use Rattle.octets.specs.Words.{be64}
use mathlib.Core.Bool.{false}
use borrow.Author.Tests.{eqb-true, eqb-false}
use lib.Dec.{eqb}
use Rattle.rules.proofs.{TestLaws.apart, TestLaws.by_test, HeaderLaws.header_refusal_laws}
use Rattle.handler.specs

pub ruleset refusal_laws = (header_refusal_laws)

-- a frame to the MAC that a number has above 16 bits more
pub to_mac_so : (word : ℕ) (f : List ℕ) (n : ℕ) → n ≡ be64 f 0 → eqb (n / 65536) (word / 65536) ≡ eqb (be48 f 0) (word / 65536)
to_mac_so word f n is = let high : n / 65536 ≡ be48 f 0 = omega arith in rw high

pub ruleset to_mac_laws = (rules, to_mac_so)
