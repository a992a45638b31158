-- The outcome of a call on a description, by the room lent and by what the description says: one law for each, by the tests.
use mathlib.Core.Path.{◌≡◌}
use mathlib.Core.List.{List}
use Prim.Native.Nat.{ℕ, ◌<◌, ◌≤◌}
use borrow.Author.Tests.{leb-true}
use native.Mathlib.Omega.{arith}
use lib.ListN.{length}
use Rattle.rules.specs.Campus.{Described, refused, accepted, described, plain_run, trace_octets, trace_least, refusal, trace_needed, campus}
use Rattle.rules.proofs.TestLaws.{tests, either}

module _ (file : List ℕ) (room : ℕ) where
  pub campus_short : room < trace_least → campus file room ≡ refusal 49
  unfolding campus
  campus_short h = simp tests

  module _ (h : trace_least ≤ room) where
    pub campus_refused : (code : ℕ) → described file ≡ refused code → campus file room ≡ refusal code
    unfolding campus
    campus_refused code e = simp (campus, tests, e)

    module _ (d : Described) (e : described file ≡ accepted d) where
      pub campus_needed : room < trace_needed d → campus file room ≡ refusal 49
      unfolding campus
      campus_needed n = simp (campus, tests, e)

      pub campus_run : trace_needed d ≤ room → campus file room ≡ record { code = 0; count = length (plain_run d); trace = trace_octets (plain_run d) }
      unfolding campus
      campus_run n = simp (campus, tests, e)

-- every description needs the 640 octets at least
pub least_needed : (d : Described) → trace_least ≤ trace_needed d
unfolding trace_needed
least_needed d = search (either (λ n. trace_least ≤ n), leb-true)

pub campus_accepted : (file : List ℕ) (room : ℕ) (d : Described) → described file ≡ accepted d → trace_needed d ≤ room
    → campus file room ≡ record { code = 0; count = length (plain_run d); trace = trace_octets (plain_run d) }
campus_accepted file room d e n = campus_run file room (omega (arith, n, least_needed d)) d e n
