-- Numbers of eight octets: in an octet string and out of one.
use Rattle.std.specs.Prelude.{ℕ, ◌+◌, ◌*◌, ◌/◌, List, ◌++◌}
use Rattle.rules.specs.Octets.{be32, octets16, octets48}

abbrev pub be64 : List ℕ → ℕ → ℕ
be64 s at = be32 s at * 4294967296 + be32 s (at + 4)

abbrev pub octets64 : ℕ → List ℕ
octets64 n = octets48 (n / 65536) ++ octets16 n
