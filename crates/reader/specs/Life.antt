-- T-04: "However the frame is cut, an empty burst among them, the answer and the written octets equal those of the whole-frame call." A reader's life:
-- a start, bursts, a mark, and whatever comes after it; the caller leaves what it lent alone in between.
use Rattle.std.specs.Prelude.{ℕ, ◌+◌, ◌≤◌, ◌≡◌, List, [], ◌∷◌, ◌++◌, not, length, replicate, ltb, eqb, if◌then◌else◌}
use Rattle.rules.specs.Answer.{Handled, dropped}
use Rattle.rules.specs.Handling.{frame_most, handled, output_after, beside_after}
use Rattle.reader.specs.Bursts.{reader_words, gathered_least, Started, saying, burst, Mark, marking, mark}

-- the octets of the bursts, joined
unfoldable pub joined : List (List ℕ) → List ℕ
joined [] = []
joined (b ∷ bs) = b ++ joined bs

-- what bursts leave, one after another, with what each said
pub record Fed : Type 0 where
  pub answers : List ℕ
  pub words : List ℕ
  pub gathered : List ℕ

abbrev pub first : ℕ → Fed → Fed
first n f = record { answers = n ∷ f.answers; words = f.words; gathered = f.gathered }

unfoldable pub fed : List ℕ → List ℕ → List (List ℕ) → Fed
fed w g [] = record { answers = []; words = w; gathered = g }
fed w g (b ∷ bs) = first (burst w g b).answer (fed (burst w g b).words (burst w g b).gathered bs)

-- "1 and 2 come at the start, 3 with octet 2,049 .. till then a call says 0": by what the start said, and how many octets there are
unfoldable pub early_at : ℕ → ℕ → ℕ
early_at start n =
    if not (eqb start 0) then start else
    if ltb frame_most n then 3
    else 0

-- what each burst says, n octets before the first
unfoldable pub said : ℕ → ℕ → List (List ℕ) → List ℕ
said start n [] = []
said start n (b ∷ bs) = early_at start (n + length b) ∷ said start (n + length b) bs

-- the early answer, or else the answer of the whole-frame call on the octets joined
unfoldable pub answer_of_whole : ℕ → List ℕ → List ℕ → ℕ → ℕ → List ℕ → Handled
answer_of_whole start settings clock room beside_room f =
    if eqb (early_at start (length f)) 0 then handled settings clock room beside_room f
    else dropped (early_at start (length f))

-- a call after the mark
pub data Later : Type 0 where
  later_burst : List ℕ → Later
  later_mark : ℕ → ℕ → Later

unfoldable pub laters : List ℕ → List ℕ → List Later → Fed
laters w g [] = record { answers = []; words = w; gathered = g }
laters w g (later_burst b ∷ cs) = first (burst w g b).answer (laters (burst w g b).words (burst w g b).gathered cs)
laters w g (later_mark room beside_room ∷ cs) = first (mark w g room beside_room).answer.number (laters (mark w g room beside_room).words g cs)

-- a reader's life: what its start was given, the words before and after it, the gathering buffer, the bursts, and the buffers lent at the mark
pub record Life : Type 0 where
  pub settings : List ℕ
  pub clock : List ℕ
  pub room : ℕ
  pub beside_room : ℕ
  pub before : List ℕ
  pub words : List ℕ
  pub start : ℕ
  pub started : Started settings clock room beside_room before words start
  pub enough : reader_words ≤ length before
  pub gathered : List ℕ
  pub lent : gathered_least ≤ length gathered
  pub bursts : List (List ℕ)
  pub out : List ℕ
  pub beside : List ℕ

abbrev pub fed_in : Life → Fed
fed_in l = fed l.words l.gathered l.bursts

abbrev pub mark_in : Life → Mark
mark_in l = mark (fed_in l).words (fed_in l).gathered (length l.out) (length l.beside)

abbrev pub whole_in : Life → Handled
whole_in l = answer_of_whole l.start l.settings l.clock (length l.out) (length l.beside) (joined l.bursts)

-- The claim. `whole`: with good buffers at start and mark, every length is answered as the whole-frame call does, 2,049 octets and more by 3.
pub record Claim (l : Life) : Type 0 where
  pub bursts_say : (fed_in l).answers ≡ said l.start 0 l.bursts
  pub mark_says : (mark_in l).answer ≡ whole_in l
  pub output : output_after l.out (mark_in l).answer ≡ output_after l.out (whole_in l)
  pub output_beside : beside_after l.beside (mark_in l).answer ≡ beside_after l.beside (whole_in l)
  pub whole : l.start ≡ 0 → 2048 ≤ length l.out → 576 ≤ length l.beside
      → (mark_in l).answer ≡ handled l.settings l.clock (length l.out) (length l.beside) (joined l.bursts)
  pub later_bursts : (b : List ℕ) → burst (mark_in l).words (fed_in l).gathered b ≡ saying 36 (mark_in l).words (fed_in l).gathered
  pub later_marks : (room beside_room : ℕ) → mark (mark_in l).words (fed_in l).gathered room beside_room ≡ marking (dropped 36) (mark_in l).words
  pub later : (cs : List Later) → laters (mark_in l).words (fed_in l).gathered cs
      ≡ record { answers = replicate (length cs) 36; words = (mark_in l).words; gathered = (fed_in l).gathered }
