-- "prints answers and count in decimal, nicknames and hop counts in hex": the octets that the program prints.
use Rattle.std.specs.Prelude.{ℕ, zero, suc, ◌+◌, ◌/◌, ◌%◌, List, [], ◌∷◌, ◌++◌, true, false, ltb, length, if◌then◌else◌}
use Prim.Native.Char.{code}
use Prim.Native.String.{String, [] as empty, ◌∷◌ as ◌then◌}
use Rattle.rules.specs.Campus.{refused, accepted, Kind, original, reply, State, described, plain_run, hop_received, egress_received}

-- the octets of a text
unfoldable pub ascii : String → List ℕ
ascii empty = []
ascii (c then s) = code c ∷ ascii s

abbrev pub blank : ℕ
blank = 0x20

abbrev pub line_feed : ℕ
line_feed = 0x0A

-- upper case
unfoldable pub hex_digit : ℕ → ℕ
hex_digit n = if ltb n 10 then 0x30 + n else 0x37 + n

abbrev pub hex2 : ℕ → List ℕ
hex2 n = hex_digit (n / 16 % 16) ∷ hex_digit (n % 16) ∷ []

abbrev pub hex4 : ℕ → List ℕ
hex4 n = hex2 (n / 256) ++ hex2 n

-- a number of `fuel` digits or fewer, with no zero in front
unfoldable pub decimal_from : ℕ → ℕ → List ℕ
decimal_from zero n = []
decimal_from (suc fuel) n = elim (ltb n 10) [ true ↦ (0x30 + n) ∷ [] | false ↦ decimal_from fuel (n / 10) ++ ((0x30 + n % 10) ∷ []) ]

abbrev pub decimal : ℕ → List ℕ
decimal n = decimal_from (suc n) n

-- O for original, R for reply
abbrev pub kind_letter : Kind → ℕ
kind_letter original = 0x4F
kind_letter reply = 0x52

-- "0002 O 50 05 0003"
unfoldable pub entry_text : State → List ℕ
entry_text s =
    hex4 s.switch.nickname
    ++ (blank ∷ kind_letter s.kind ∷ blank ∷ [])
    ++ decimal s.answer.number
    ++ (blank ∷ [])
    ++ hex2 (hop_received s.frame)
    ++ (blank ∷ [])
    ++ hex4 (egress_received s.frame)
    ++ (line_feed ∷ [])

unfoldable pub entries_text : List State → List ℕ
entries_text [] = []
entries_text (s ∷ states) = entry_text s ++ entries_text states

-- what the program prints for a file, each line ended by a line feed
unfoldable pub printed : List ℕ → List ℕ
printed file =
    elim (described file) [
      | refused code ↦ ascii "refused " ++ decimal code ++ (line_feed ∷ [])
      | accepted d ↦ entries_text (plain_run d) ++ ascii "handled " ++ decimal (length (plain_run d)) ++ (line_feed ∷ [])
    ]
