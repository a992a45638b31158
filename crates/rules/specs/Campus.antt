-- "Campus description and run": what a description says or why it is refused, the plain run, its trace, and the whole call.
use Rattle.std.specs.Prelude.{ℕ, zero, suc, List, [], ◌∷◌, ◌++◌, Bool, true, false, not, ◌&&◌, ◌||◌, length, drop, ltb, eqb, if◌then◌else◌, Option, Some, None, Ok, Err}
use Rattle.rules.specs.Octets.{be16, octets16, put}
use Rattle.rules.specs.Fields.{Field, field, cut, fields, length_good}
use Rattle.rules.specs.Settings.{Settings, hop_good, switch_good, serial_met, switch_of, hop_of, strip_good, edition_good, hops_most, with_field, ways_of}
use Rattle.rules.specs.Header.{hop_count, read_frame}
use Rattle.rules.specs.Answer.{Handled}
use Rattle.rules.specs.Handling.{handling}

-- A description as far as it is read. The latest switch stands first; tag 5 gives the entry switch and the frame.
pub record Described : Type 0 where
  pub switches : List Settings
  pub clock : Option (List ℕ)
  pub entry : Option Settings
  pub frame : List ℕ

abbrev pub nothing_yet : Described
nothing_yet = record { switches = []; clock = None; entry = None; frame = [] }

unfoldable pub switch_named : List Settings → ℕ → Option Settings
switch_named [] nickname = None
switch_named (S ∷ switches) nickname = if eqb S.nickname nickname then Some S else switch_named switches nickname

abbrev pub known : {A : Type 0} → Option A → Bool
known None = false
known (Some a) = true

-- 43: "tag out of place (2 or 3 before any tag 1, a second tag 4, anything after tag 5)"; T-09: tag 6 is "placed and counted as tag 3"
unfoldable pub order_good : Described → ℕ → Bool
order_good d tag =
    not (known d.entry)
    && not ((eqb tag 2 || eqb tag 3 || eqb tag 6) && eqb (length d.switches) 0)
    && not (eqb tag 4 && known d.clock)

-- 44: "value outside the settings rules, or strip flag above 1"; T-09: "value 1 or 2"
unfoldable pub value_good : ℕ → List ℕ → Bool
value_good tag v =
    if eqb tag 1 then switch_good (switch_of v) else
    if eqb tag 2 then hop_good (hop_of v) else
    if eqb tag 3 then strip_good v else
    if eqb tag 6 then edition_good v
    else true

-- 45: "nickname of an earlier switch"
unfoldable pub nickname_new : Described → ℕ → List ℕ → Bool
nickname_new d tag v = not (eqb tag 1 && known (switch_named d.switches (be16 v 0)))

abbrev pub switches_most : ℕ
switches_most = 16

abbrev pub latest_hops : Described → ℕ
latest_hops d = elim d.switches [ [] ↦ 0 | S ∷ switches ↦ length S.hops ]

-- 46: "over 16 switches or 64 records"
unfoldable pub room_good : Described → ℕ → Bool
room_good d tag =
    if eqb tag 1 then ltb (length d.switches) switches_most else
    if eqb tag 2 then ltb (latest_hops d) hops_most
    else true

-- 47: "serial met before for that destination at that switch"
unfoldable pub serial_new : Described → ℕ → List ℕ → Bool
serial_new d tag v = elim d.switches [ [] ↦ true | S ∷ switches ↦ not (eqb tag 2 && serial_met (hop_of v) S.hops) ]

-- 48: "entry switch unknown"
unfoldable pub entry_known : Described → ℕ → List ℕ → Bool
entry_known d tag v = not (eqb tag 5) || known (switch_named d.switches (be16 v 0))

-- 41 to 48 for one field, "tests in this order", or 0
unfoldable pub field_refusal : Described → Field → ℕ
field_refusal d cut = 41
field_refusal d (field tag v) =
    if not (length_good tag (length v)) then 42 else
    if not (order_good d tag) then 43 else
    if not (value_good tag v) then 44 else
    if not (nickname_new d tag v) then 45 else
    if not (room_good d tag) then 46 else
    if not (serial_new d tag v) then 47 else
    if not (entry_known d tag v) then 48
    else 0

abbrev pub on_latest : (Settings → Settings) → List Settings → List Settings
on_latest change [] = []
on_latest change (S ∷ switches) = change S ∷ switches

-- the description once one more field is read
unfoldable pub with_next : Described → Field → Described
with_next d cut = d
with_next d (field tag v) =
    if eqb tag 1 then record { switches = switch_of v ∷ d.switches; clock = d.clock; entry = d.entry; frame = d.frame } else
    if eqb tag 4 then record { switches = d.switches; clock = Some v; entry = d.entry; frame = d.frame } else
    if eqb tag 5 then record { switches = d.switches; clock = d.clock; entry = switch_named d.switches (be16 v 0); frame = drop 2 v }
    else record { switches = on_latest (λ S. with_field S (field tag v)) d.switches; clock = d.clock; entry = d.entry; frame = d.frame }

-- a description, or the code that refuses it
pub data Description : Type 0 where
  refused : ℕ → Description
  accepted : Described → Description

-- "at the first field at fault"; "or no tag 5 at the end"
unfoldable pub described_from : Described → List Field → Description
described_from d [] = if known d.entry then accepted d else refused 43
described_from d (f ∷ fs) = elim (eqb (field_refusal d f) 0) [ true ↦ described_from (with_next d f) fs | false ↦ refused (field_refusal d f) ]

abbrev pub file_most : ℕ
file_most = 32768

abbrev pub trace_least : ℕ
trace_least = 640

-- 40: "file over 32,768 octets"; then the fields
unfoldable pub described : List ℕ → Description
described file = if ltb file_most (length file) then refused 40 else described_from nothing_yet (fields file)

-- "clock, at most once, default zero"
unfoldable pub clock_of : Described → List ℕ
clock_of d = elim d.clock [ None ↦ 0 ∷ 0 ∷ 0 ∷ 0 ∷ 0 ∷ 0 ∷ [] | Some clock ↦ clock ]

-- "It holds a switch, a frame and whether that is original or reply": one handling of the run, with its answer
pub data Kind : Type 0 where
  original : Kind
  reply : Kind

-- `handling_no` counts the handlings from 1
pub record State : Type 0 where
  pub handling_no : ℕ
  pub switch : Settings
  pub kind : Kind
  pub frame : List ℕ
  pub answer : Handled

-- T-09: "in the plain run replies run in the order made after the original stops": a reply that waits, and the nickname of the switch that it
-- goes to
pub record Waiting : Type 0 where
  pub towards : ℕ
  pub frame : List ℕ

-- "what 53 or 54 writes is a reply"; T-09: "a reply made beside 50"
abbrev pub writes_reply : ℕ → Bool
writes_reply number = eqb number 53 || eqb number 54

unfoldable pub replies_made : Handled → List Waiting
replies_made a =
    if writes_reply a.number then record { towards = a.via; frame = a.octets } ∷ [] else
    if eqb (length a.beside) 0 then []
    else record { towards = a.beside_via; frame = a.beside } ∷ []

-- "The written frame goes next to the switch whose nickname is the neighbour in the writing switch's ruling record for that frame's egress; if
-- the campus has no such switch, the frame has left"; T-09: "a frame that leaves the campus .. ends only its own way"
abbrev pub in_campus : List Settings → ℕ → Bool
in_campus switches nickname = known (switch_named switches nickname)

unfoldable pub staying : List Settings → List Waiting → List Waiting
staying switches [] = []
staying switches (w ∷ replies) = if in_campus switches w.towards then w ∷ staying switches replies else staying switches replies

-- the replies that wait after a handling, those made last at the end
abbrev pub waiting_after : List Settings → List Waiting → Handled → List Waiting
waiting_after switches waiting a = waiting ++ staying switches (replies_made a)

-- what is handled next: at which switch, by its nickname, and the replies that then wait; or nothing
pub data Next : Type 0 where
  over : Next
  next : ℕ → Kind → List ℕ → List Waiting → Next

-- "What 50 writes stays original or reply"; T-09: "or whose answer would end the run, ends only its own way, and the run ends when no reply waits"
unfoldable pub sent_on : List Settings → Handled → Bool
sent_on switches a = eqb a.number 50 && in_campus switches a.via

unfoldable pub first_waiting : List Waiting → Next
first_waiting [] = over
first_waiting (w ∷ waiting) = next w.towards reply w.frame waiting

unfoldable pub next_after : List Settings → Kind → List Waiting → Handled → Next
next_after switches kind waiting a =
    if sent_on switches a then next a.via kind a.octets (waiting_after switches waiting a)
    else first_waiting (waiting_after switches waiting a)

-- handling number `i`, of the frame at the switch with that nickname, and all later ones, `fuel` of them at most
unfoldable pub run_from : ℕ → ℕ → List Settings → List ℕ → ℕ → Kind → List ℕ → List Waiting → List State
run_from zero i switches clock nickname kind f waiting = []
run_from (suc fuel) i switches clock nickname kind f waiting =
    elim (switch_named switches nickname) [
      | None ↦ []
      | Some S ↦
          let a = handling (ways_of S) clock f in
          record { handling_no = i; switch = S; kind = kind; frame = f; answer = a }
          ∷ elim (next_after switches kind waiting a) [
            | over ↦ []
            | next nickname' kind' g waiting' ↦ run_from fuel (suc i) switches clock nickname' kind' g waiting'
          ]
    ]

-- no run has as many handlings as this: any larger number gives the same states
abbrev pub handlings_most : ℕ
handlings_most = 4097

-- the plain run of an accepted description
unfoldable pub plain_run : Described → List State
plain_run d = elim d.entry [ None ↦ [] | Some S ↦ run_from handlings_most 1 d.switches (clock_of d) S.nickname original d.frame [] ]

-- "hop count and egress are zero for a frame unreadable as TRILL"
unfoldable pub hop_received : List ℕ → ℕ
hop_received f = elim (read_frame f) [ Err number ↦ 0 | Ok h ↦ hop_count h.word ]

unfoldable pub egress_received : List ℕ → ℕ
egress_received f = elim (read_frame f) [ Err number ↦ 0 | Ok h ↦ h.egress ]

abbrev pub kind_octet : Kind → ℕ
kind_octet original = 0
kind_octet reply = 1

-- "switch 2, frame 1 (0 original, 1 reply), answer 1, hop count received 1, zero 1, egress 2"
unfoldable pub entry_octets : State → List ℕ
entry_octets s =
    octets16 s.switch.nickname
    ++ (kind_octet s.kind ∷ s.answer.number ∷ hop_received s.frame ∷ 0 ∷ [])
    ++ octets16 (egress_received s.frame)

unfoldable pub trace_octets : List State → List ℕ
trace_octets [] = []
trace_octets (s ∷ states) = entry_octets s ++ trace_octets states

-- what the campus call answers, and the entries that it writes
pub record Outcome : Type 0 where
  pub code : ℕ
  pub count : ℕ
  pub trace : List ℕ

abbrev pub refusal : ℕ → Outcome
refusal code = record { code = code; count = 0; trace = [] }

-- "a campus with an edition 2 switch"
unfoldable pub some_edition2 : List Settings → Bool
some_edition2 [] = false
some_edition2 (S ∷ switches) = S.rfc7179 || some_edition2 switches

-- "the trace buffer must then hold 32,768 octets"
unfoldable pub trace_needed : Described → ℕ
trace_needed d = if some_edition2 d.switches then 32768 else trace_least

-- "Code 49, tested before all: trace buffer under 640 octets." T-09: "49 with the new size is tested after all other codes of the file."
-- `room` is the length of the trace buffer.
unfoldable pub campus : List ℕ → ℕ → Outcome
campus file room =
    if ltb room trace_least then refusal 49 else
    elim (described file) [
      | refused code ↦ refusal code
      | accepted d ↦
          elim (ltb room (trace_needed d)) [
            | true ↦ refusal 49
            | false ↦ record { code = 0; count = length (plain_run d); trace = trace_octets (plain_run d) }
          ]
    ]

-- "octets after its entries stay"
abbrev pub trace_after : List ℕ → Outcome → List ℕ
trace_after trace o = put trace 0 o.trace
