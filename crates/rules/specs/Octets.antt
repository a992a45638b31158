-- Octet strings: numbers in them, big-endian throughout, a part of one, and a buffer after something was written into it.
use Rattle.std.specs.Prelude.{ℕ, ◌+◌, ◌*◌, ◌/◌, ◌%◌, List, [], ◌∷◌, ◌++◌, length, get_or, take, drop}

-- a place past the end reads 0, and a number above 255, which no octet string has, by its low eight bits
abbrev pub octet : List ℕ → ℕ → ℕ
octet s at = get_or s at 0 % 256

abbrev pub be16 : List ℕ → ℕ → ℕ
be16 s at = octet s at * 256 + octet s (at + 1)

abbrev pub be32 : List ℕ → ℕ → ℕ
be32 s at = be16 s at * 65536 + be16 s (at + 2)

abbrev pub be48 : List ℕ → ℕ → ℕ
be48 s at = be16 s at * 4294967296 + be32 s (at + 2)

abbrev pub octets16 : ℕ → List ℕ
octets16 n = n / 256 % 256 ∷ n % 256 ∷ []

abbrev pub octets48 : ℕ → List ℕ
octets48 n = octets16 (n / 4294967296) ++ octets16 (n / 65536) ++ octets16 n

-- the `size` octets from `start` on
abbrev pub part : List ℕ → ℕ → ℕ → List ℕ
part s start size = take size (drop start s)

-- the buffer `d` after `s` was written into it from `at` on
unfoldable pub put : List ℕ → ℕ → List ℕ → List ℕ
put d at s = take at d ++ s ++ drop (at + length s) d
