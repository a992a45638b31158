-- What a copy into a buffer writes.
use Rattle.std.specs.Prelude.{ℕ, ◌+◌, ◌≡◌, List, [], length, leb, if◌then◌else◌}
use Rattle.rules.specs.Octets.{put}

-- octets written from a place to where they end, and nothing else
pub record Wrote (octets : List ℕ) (at end : ℕ) (out out' : List ℕ) : Type 0 where
  pub ends : end ≡ at + length octets
  pub after : out' ≡ put out at octets

-- what is written of octets: all or, where they do not fit, nothing
unfoldable pub fitting : List ℕ → ℕ → List ℕ → List ℕ
fitting out at s = if leb (at + length s) (length out) then s else []
