-- T-04: "a reader fed bursts and then an end mark". What the words of a reader mean, whatever they are, and what each call answers and leaves.
use Rattle.std.specs.Prelude.{ℕ, ◌+◌, ◌%◌, ◌≤◌, ◌<◌, ◌≡◌, List, [], ◌∷◌, Bool, true, false, not, length, get_or, set, take, drop, ltb, eqb, if◌then◌else◌, Result, Ok, Err, Some, None}
use Rattle.rules.specs.Octets.{be48, octets48, put}
use Rattle.rules.specs.Answer.{Handled, dropped, number_of}
use Rattle.rules.specs.declared.Number.TheVariants as N
use Rattle.rules.specs.Handling.{frame_most}
use Rattle.rules.specs.Settings.{settings_of}
use Rattle.handler.specs.Tasks.{Both}
use Rattle.stores.specs.Store.{Prepared, preparing, handled_in}
use Rattle.handler.specs.declared.answers.Answer.{Answer}
use Rattle.reader.specs.declared.Stopped.{Stopped}
use Rattle.reader.specs.declared.Stopped.TheVariants.{Refused, Early}

-- clock, number of octets gathered, early answer, end mark, and a store of 164 words
abbrev pub reader_words : ℕ
reader_words = 168

-- octets that the gathering buffer must have
abbrev pub gathered_least : ℕ
gathered_least = 2048

abbrev pub clock_in : List ℕ → List ℕ
clock_in w = octets48 (get_or w 0 0)

abbrev pub count_in : List ℕ → ℕ
count_in w = get_or w 1 0

abbrev pub early_in : List ℕ → ℕ
early_in w = get_or w 2 0 % 65536

abbrev pub ended_in : List ℕ → Bool
ended_in w = not (eqb (get_or w 3 0) 0)

abbrev pub store_in : List ℕ → List ℕ
store_in w = drop 4 w

abbrev pub with_count : List ℕ → ℕ → List ℕ
with_count w n = set w 1 n

abbrev pub with_early : List ℕ → ℕ → List ℕ
with_early w n = set w 2 n

abbrev pub with_end : List ℕ → List ℕ
with_end w = set w 3 1

-- "1 and 2 come at the start", 37 follows 2; else 0
unfoldable pub start_refusal : Bool → ℕ → ℕ → ℕ → ℕ
start_refusal bad clock room beside_room =
    if bad then 1 else
    if not (eqb clock 6) then 1 else
    if ltb room 2048 then 2 else
    if ltb beside_room 576 then 37
    else 0

unfoldable pub settings_bad : List ℕ → Bool
settings_bad settings = elim (settings_of settings) [ None ↦ true | Some S ↦ false ]

abbrev pub early_at_start : List ℕ → List ℕ → ℕ → ℕ → ℕ
early_at_start settings clock room beside_room = start_refusal (settings_bad settings) (length clock) room beside_room

-- What a start answers and leaves. Too few words are answered 2, and stay. Else the first four words are these, and what the store's words are is free
-- but for what they mean (`Prepared`): they handle every frame as the settings do. The words behind them stay.
pub record Started (settings clock : List ℕ) (room beside_room : ℕ) (w w' : List ℕ) (r : ℕ) : Type 0 where
  pub answered : r ≡ (if ltb (length w) reader_words then 2 else early_at_start settings clock room beside_room)
  pub refused : length w < reader_words → w' ≡ w
  pub same_length : length w' ≡ length w
  pub begun : reader_words ≤ length w → take 4 w' ≡ be48 clock 0 ∷ 0 ∷ r ∷ 0 ∷ []
  pub clock_kept : length clock ≡ 6 → octets48 (be48 clock 0) ≡ clock
  pub store : reader_words ≤ length w → Prepared settings (store_in w) (store_in w') (preparing settings (length (store_in w)))

-- what a burst or a mark that is stopped says
abbrev pub said_by : Stopped → ℕ
said_by (Refused n) = number_of n
said_by (Early n) = n

-- what a burst says, 0 where it is gathered
abbrev pub said_of : Result Unit Stopped → ℕ
said_of (Ok u) = 0
said_of (Err s) = said_by s

-- why a burst or a mark comes to nothing, by the words and the length of the gathering buffer
unfoldable pub stopped : List ℕ → ℕ → Result Unit Stopped
stopped w room =
    if ltb (length w) reader_words then Err (Refused N.OutputShort) else
    if ended_in w then Err (Refused N.FrameEnded) else
    if not (eqb (early_in w) 0) then Err (Early (early_in w)) else
    if ltb room gathered_least then Err (Refused N.OutputShort)
    else Ok tt

-- what a burst comes to
pub record Burst : Type 0 where
  pub answer : ℕ
  pub words : List ℕ
  pub gathered : List ℕ

abbrev pub saying : ℕ → List ℕ → List ℕ → Burst
saying n w g = record { answer = n; words = w; gathered = g }

-- "till then a call says 0", "3 with octet 2,049", "After an early answer further bursts change nothing; they .. repeat it", "36, a burst .. after the
-- end mark .. leaves the reader as it was"
unfoldable pub burst : List ℕ → List ℕ → List ℕ → Burst
burst w g b =
    if ltb (length w) reader_words then saying 2 w g else
    if ended_in w then saying 36 w g else
    if not (eqb (early_in w) 0) then saying (early_in w) w g else
    if ltb (length g) gathered_least then saying 2 w g else
    if ltb frame_most (count_in w + length b) then saying 3 (with_early w 3) g
    else saying 0 (with_count w (count_in w + length b)) (put g (count_in w) b)

pub record BurstDone (a : Burst) (r : ℕ) (w' g' : List ℕ) : Type 0 where
  pub answer : r ≡ a.answer
  pub words : w' ≡ a.words
  pub gathered : g' ≡ a.gathered

-- what a mark comes to
pub record Mark : Type 0 where
  pub answer : Handled
  pub words : List ℕ

abbrev pub marking : Handled → List ℕ → Mark
marking a w = record { answer = a; words = w }

-- the handling of the octets gathered
unfoldable pub gathered_handled : List ℕ → List ℕ → ℕ → ℕ → Handled
gathered_handled w g room beside_room = handled_in (store_in w) (clock_in w) room beside_room (take (count_in w) g)

-- "all others at the end mark", "without an early answer the buffer lent at the mark is tested anew"
unfoldable pub mark : List ℕ → List ℕ → ℕ → ℕ → Mark
mark w g room beside_room =
    if ltb (length w) reader_words then marking (dropped 2) w else
    if ended_in w then marking (dropped 36) w else
    if not (eqb (early_in w) 0) then marking (dropped (early_in w)) (with_end w) else
    if ltb (length g) gathered_least then marking (dropped 2) w
    else marking (gathered_handled w g room beside_room) (with_end w)

pub record MarkDone (a : Mark) (r : Answer) (w' out out' beside beside' : List ℕ) : Type 0 where
  pub both : Both a.answer r out out' beside beside'
  pub words : w' ≡ a.words
