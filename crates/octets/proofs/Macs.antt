-- The tests of a neighbour and of a switch as the code makes them. By arithmetic.
use mathlib.Core.Path.{◌≡◌}
use mathlib.Core.List.{List}
use mathlib.Core.Bool.{Bool, true, false, ◌||◌}
use Prim.Native.Nat.{ℕ, ◌/◌, ◌%◌}
use native.Mathlib.Omega.{arith}
use borrow.Author.Rules.{rules}
use lib.Dec.{leb, eqb}
use Rattle.rules.specs.Settings.{nickname_valid, mac_good, switch_good, switch_of}
use Rattle.octets.specs.Words.{be64}
use Rattle.octets.proofs.WordLaws.{first_part, rest_part}

-- a neighbour is withdrawn or valid exactly where it is not above the valid nicknames
pub withdrawn_or_valid : (n : ℕ) → (eqb n 0 || nickname_valid n) ≡ leb n 0xFFBF
withdrawn_or_valid n = grind arith

-- a switch: its nickname and its MAC
module _ (v : List ℕ) (n : ℕ) (is : n ≡ be64 v 0) (a : Bool) (is_a : a ≡ nickname_valid (n / 281474976710656)) where
  pub nickname_bad : a ≡ false → a ≡ switch_good (switch_of v)
  unfolding switch_good
  nickname_bad t = cc (t, first_part v 0 n is)

  pub mac_decides : a ≡ true → (b : Bool) → b ≡ mac_good (n % 281474976710656) → b ≡ switch_good (switch_of v)
  unfolding switch_good
  mac_decides t b is_b = cc (t, first_part v 0 n is, rest_part v 0 n is)

pub ruleset switch_good_laws = (rules, nickname_bad, mac_decides)
