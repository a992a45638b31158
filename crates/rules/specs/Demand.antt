-- Demand 3 of the minutes as one claim about a call that runs a campus, in their order and with their words.
use Rattle.std.specs.Prelude.{◌≡◌, false, ℕ, zero, suc, ◌+◌, ◌*◌, ◌≤◌, min, length, drop, eqb, if◌then◌else◌, Option, Some, None, Ok, Err}
use mathlib.Core.List.{List, [], ◌∷◌, ◌++◌, Memᴰ}
use Rattle.rules.specs.Settings.{Settings, ways_of}
use Rattle.rules.specs.Header.{hop_count, read_frame}
use Rattle.rules.specs.Handling.{handling}
use Rattle.rules.specs.Campus.{Described, switch_named, State, Kind, reply, original, writes_reply, replies_made, run_from, handlings_most, plain_run, clock_of}
use Rattle.rules.specs.Campus.{some_edition2, hop_received, trace_octets}
use Rattle.rules.specs.declared.Header.{Header}
use Rattle.rules.specs.declared.Number.{Number}

-- how many replies arise in a run, those that leave the campus too
unfoldable pub replies_in : List State → ℕ
replies_in [] = 0
replies_in (s ∷ states) = length (replies_made s.answer) + replies_in states

-- The two bounds of a campus for a frame received with hop count h: how many replies arise at most, "one", and T-09: "for a campus with an
-- edition 2 switch .. at most h replies",
unfoldable pub replies_most : Described → ℕ → ℕ
replies_most d h = if some_edition2 d.switches then h else 1

-- and, with h of 1 or more, how many handlings of frame and replies together there are at most: "64 plus the smaller of n and h", and T-09:
-- "at most 65h + 1 handlings".
unfoldable pub handlings_bound : Described → ℕ → ℕ
handlings_bound d h = if some_edition2 d.switches then 65 * h + 1 else 64 + min (length d.switches) h

-- The run as document 01 writes it out, for a campus in which no reply has to wait: "What 50 writes stays original or reply; what 53 or 54 writes
-- is a reply. The written frame goes next to the switch whose nickname is the neighbour .. if the campus has no such switch, the frame has
-- left and the run ends. Any other answer ends it."
unfoldable pub kind_after : Kind → ℕ → Option Kind
kind_after kind number =
    if eqb number 50 then Some kind else
    if writes_reply number then Some reply
    else None

unfoldable pub single_run : ℕ → ℕ → List Settings → List ℕ → Settings → Kind → List ℕ → List State
single_run zero i switches clock S kind f = []
single_run (suc fuel) i switches clock S kind f =
    let a = handling (ways_of S) clock f in
    record { handling_no = i; switch = S; kind = kind; frame = f; answer = a }
    ∷ elim (kind_after kind a.number) [
      | None ↦ []
      | Some kind' ↦
          elim (switch_named switches a.via) [
            | None ↦ []
            | Some T ↦ single_run fuel (suc i) switches clock T kind' a.octets
          ]
    ]

-- `d` is the accepted campus and its frame. The call, lent `trace`, answers `code` and `count` and leaves `trace'`.
pub record Demand (d : Described) (trace trace' : List ℕ) (code count : ℕ) : Type 0 where
  -- "Take any accepted campus of n switches, 1 to 16, its records fixed, whatever loops they make,"
  pub from_one : 1 ≤ length d.switches
  pub to_sixteen : length d.switches ≤ 16
  -- "and put in any one frame of at most 2,048 octets at any switch."
  pub frame_short : length d.frame ≤ 2048
  pub entry : Settings
  pub entry_known : Memᴰ entry d.switches
  pub entered : d.entry ≡ Some entry
  -- "Document 01 writes out the plain run of that campus and frame.": T-09 adds the replies that wait, and only for edition 2
  pub as_written : some_edition2 d.switches ≡ false → plain_run d ≡ single_run handlings_most 1 d.switches (clock_of d) entry original d.frame
  -- "The plain run ends.": given more handlings, it has the same.
  pub ends : (more : ℕ) → run_from (handlings_most + more) 1 d.switches (clock_of d) entry.nickname original d.frame [] ≡ plain_run d
  -- "The call, lent a trace buffer of at least the size asked, answers 0, its count is the number of handlings in the plain run,"
  pub answers_0 : code ≡ 0
  pub counts : count ≡ length (plain_run d)
  -- "and the trace buffer begins with exactly the plain run's entries, in order; its octets after them are as before the call."
  pub traces : trace' ≡ trace_octets (plain_run d) ++ drop (8 * count) trace
  -- "At most one reply arises and nothing answers it."; T-09: "at most h replies, .. and nothing answers a reply"
  pub few_replies : replies_in (plain_run d) ≤ replies_most d (hop_received d.frame)
  pub unanswered : (s : State) → Memᴰ s (plain_run d) → s.kind ≡ reply → replies_made s.answer ≡ []
  -- "For a frame readable as TRILL, received with hop count h of 1 or more, the handlings of frame and reply together are at most
  -- 64 plus the smaller of n and h;"; T-09: "at most 65h + 1 handlings"
  pub bound : (h : Header) → read_frame d.frame ≡ Ok h → 1 ≤ hop_count h.word → count ≤ handlings_bound d (hop_count h.word)
  -- "for h = 0 there is one."
  pub hop_0 : (h : Header) → read_frame d.frame ≡ Ok h → hop_count h.word ≡ 0 → count ≡ 1
  -- "An unreadable frame is handled once."
  pub unreadable : (number : Number) → read_frame d.frame ≡ Err number → count ≡ 1
