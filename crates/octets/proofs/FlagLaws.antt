-- A strip flag or an edition goes with settings by its length and its value alone. By cases of the tag and of the tests.
use mathlib.Core.Path.{◌≡◌}
use mathlib.Core.List.{List}
use mathlib.Core.Bool.{true, not, ◌&&◌, not-not}
use Prim.Native.Nat.{ℕ}
use native.Mathlib.Omega.{arith}
use borrow.Author.Tests.{not-false}
use lib.Dec.{eqb}
use lib.ListN.{length}
use Rattle.rules.specs.{Fields.field, Fields.length_good, Settings.Settings, Settings.continues}
use Rattle.rules.proofs.TestLaws.{and_no, and_yes, by_equal, tests}
use Rattle.rules.proofs.FrameLaws.{none_given}
use Rattle.octets.specs.Flags.{flag_tag, flag_value, flag_by}
use Rattle.octets.proofs.Cases.{coded}

-- what is known of one that is not refused
module _ (tag : ℕ) (v : List ℕ) (e : flag_by tag v ≡ 0) where
  pub flag_is : flag_tag tag ≡ true
  flag_is = not-false (flag_tag tag) (none_given (not (flag_tag tag)) 43 _ (omega arith) e).0

-- what is refused is what does not go with settings
goes_with : (T : Settings) (tag : ℕ) (v : List ℕ) → (tag ≡ 2 → ⊥) → (flag_tag tag && (eqb (length v) 1 && flag_value tag v)) ≡ continues T (field tag v)
unfolding continues flag_tag flag_value length_good
goes_with T tag v n = by_equal tag 6 (λ e. rw e) (λ f. by_equal tag 3 (λ e. rw e) (λ g. simp (tests, and_no)))

pub flag_continues : (T : Settings) (tag : ℕ) (v : List ℕ) → (tag ≡ 2 → ⊥) → eqb (flag_by tag v) 0 ≡ continues T (field tag v)
flag_continues T tag v n = simp (coded, not-not, and_yes) (goes_with T tag v n)
