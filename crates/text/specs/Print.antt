-- The text as the code makes it, from an outcome and its trace's octets, number by number; and what the call on a description is promised to do.
use Rattle.std.specs.Prelude.{ℕ, zero, suc, ◌+◌, ◌*◌, ◌≤◌, ◌<◌, ◌≡◌, List, [], ◌∷◌, ◌++◌, length, get_or, take, drop, eqb, if◌then◌else◌}
use Rattle.octets.specs.Copy.{Wrote, fitting}
use Rattle.rules.specs.Text.{ascii, blank, line_feed, hex2, decimal, printed}

-- `s`, of `most` octets or fewer, written at a place
pub record PutAt (out out' : List ℕ) (at end most : ℕ) (s : List ℕ) : Type 0 where
  pub wrote : Wrote s at end out out'
  pub short : end ≤ at + most

unfoldable pub letter_of : ℕ → ℕ
letter_of kind = if eqb kind 0 then 0x4F else 0x52

-- the line of the entry that `e` begins with, and its parts before and after the answer
abbrev pub head_of : List ℕ → List ℕ
head_of e = hex2 (get_or e 0 0) ++ hex2 (get_or e 1 0) ++ (blank ∷ letter_of (get_or e 2 0) ∷ blank ∷ [])

abbrev pub tail_of : List ℕ → List ℕ
tail_of e = (blank ∷ []) ++ hex2 (get_or e 4 0) ++ (blank ∷ []) ++ hex2 (get_or e 6 0) ++ hex2 (get_or e 7 0) ++ (line_feed ∷ [])

unfoldable pub line_of : List ℕ → List ℕ
line_of e = head_of e ++ decimal (get_or e 3 0) ++ tail_of e

-- the lines of the first `count` entries of a trace
unfoldable pub lines_of : ℕ → List ℕ → List ℕ
lines_of zero trace = []
lines_of (suc count) trace = line_of trace ++ lines_of count (drop 8 trace)

unfoldable pub text_of : ℕ → ℕ → List ℕ → List ℕ
text_of code count trace =
    if eqb code 0
    then lines_of count trace ++ (ascii "handled " ++ decimal count ++ (line_feed ∷ []))
    else (ascii "refused " ++ decimal code ++ (line_feed ∷ []))

-- an outcome that can be printed
pub record Printable (code count : ℕ) (trace : List ℕ) : Type 0 where
  pub code_small : code < 10000
  pub few : count ≤ 4096
  pub traced : count * 8 ≤ length trace

-- a text written where it fits, and how long it is
pub record Written (s text text' : List ℕ) (written needed : ℕ) : Type 0 where
  pub needs : needed ≡ length s
  pub wrote : Wrote (fitting text 0 s) 0 written text text'

-- a text that does not fit is not written
abbrev pub TextDone : List ℕ → List ℕ → List ℕ → ℕ → ℕ → Type 0
TextDone description = Written (printed description)

-- the text of a description stands whole at the start of a buffer
pub record TextWhole (description text : List ℕ) (size : ℕ) : Type 0 where
  pub within : size ≤ length text
  pub begins : take size text ≡ printed description
