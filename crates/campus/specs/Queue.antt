-- The replies that wait, as the code holds them: slots of 579 octets from a head to a tail, none used twice.
use Rattle.std.specs.Prelude.{ℕ, suc, ◌+◌, ◌*◌, ◌/◌, ◌%◌, ◌≤◌, ◌<◌, ◌≡◌, List, [], ◌∷◌, ◌++◌, true, false, ◌&&◌, eqb, length, take, drop, if◌then◌else◌, Option, Some, None}
use Rattle.rules.specs.Octets.{put}
use Rattle.rules.specs.Settings.{Settings}
use Rattle.rules.specs.Campus.{switch_named, Kind, Waiting, writes_reply, replies_made, in_campus, staying, Next, over, next, first_waiting, next_after, entry_octets}
use Rattle.rules.specs.Demand.{replies_in}
use Rattle.handler.specs.declared.answers.Answer.{Answer}
use Rattle.campus.specs.Switches.{switch_at, all_of, number_of, IsSound}
use Rattle.campus.specs.Steps.{kind_by, state_at, run_of}
use Rattle.campus.specs.declared.switches.Switches.{Switches}
use Rattle.campus.specs.declared.running.At.{At}

abbrev pub waiting_by : ℕ → List ℕ → Waiting
waiting_by towards f = record { towards = towards; frame = f }

-- what a slot holds: the number of a switch, the length of a frame in two octets, and the frame
abbrev pub slot_octets : ℕ → List ℕ → List ℕ
slot_octets i f = i ∷ length f / 256 % 256 ∷ length f % 256 ∷ f

-- there is a slot of that number
pub record Free (waiting : List ℕ) (h : ℕ) : Type 0 where
  pub octets : h * 579 + 579 ≤ length waiting

-- slot h holds a reply
pub record Slot (sw : Switches) (waiting : List ℕ) (x : Waiting) (h : ℕ) : Type 0 where
  pub free : Free waiting h
  pub short : length x.frame ≤ 576
  pub place : ℕ
  pub within : place < length sw.starts.now
  pub named : switch_named (all_of sw) x.towards ≡ Some (switch_at sw place)
  pub holds : take (length (slot_octets place x.frame)) (drop (h * 579) waiting) ≡ slot_octets place x.frame

abbrev pub Held : Switches → List ℕ → List Waiting → ℕ → ℕ → Type 0
Held sw waiting [] head tail = head ≡ tail
Held sw waiting (x ∷ q) head tail = Slot sw waiting x head × Held sw waiting q (suc head) tail

-- some replies wait
pub record Queue (sw : Switches) (waiting : List ℕ) (head tail : ℕ) : Type 0 where
  pub queue : List Waiting
  pub held : Held sw waiting queue head tail

-- those that wait, and behind them what was made and stays
pub record Waits (sw : Switches) (waiting waiting' : List ℕ) (tail r : ℕ) (made : List Waiting) : Type 0 where
  pub held : (head : ℕ) (q : List Waiting) → Held sw waiting q head tail
      → Held sw waiting' (q ++ staying (all_of sw) made) head r
  pub more : r ≤ tail + length made
  pub same : length waiting' ≡ length waiting

-- the reply made, by the answer and both buffers
unfoldable pub replies_by : Answer → List ℕ → List ℕ → List Waiting
replies_by a out beside =
    if writes_reply a.number then waiting_by a.neighbour (take a.written out) ∷ [] else
    if eqb a.beside 0 then []
    else waiting_by a.beside_neighbour (take a.beside beside) ∷ []

pub record WaitReady (sw : Switches) (a : Answer) (out beside waiting : List ℕ) (tail : ℕ) : Type 0 where
  pub sound : IsSound sw
  pub short : writes_reply a.number ≡ true → a.written ≤ 576
  pub short_beside : a.beside ≤ 576
  pub free : 0 < length (replies_by a out beside) → Free waiting tail

-- the switch that a forwarded frame goes to
unfoldable pub sent_to : Switches → Answer → Option ℕ
sent_to sw a = if eqb a.number 50 then number_of sw a.neighbour else None

unfoldable pub onward_by : List Settings → Kind → Answer → List ℕ → List Waiting → Next
onward_by switches kind a out q =
    if eqb a.number 50 && in_campus switches a.neighbour
    then next a.neighbour kind (take a.written out) q
    else first_waiting q

pub record NextReady (sw : Switches) (a : Answer) (waiting : List ℕ) (head tail : ℕ) : Type 0 where
  pub sound : IsSound sw
  pub small : a.written ≤ 2048
  pub linked : a.number ≡ 50 → 8 ≤ a.written
  pub queue : Queue sw waiting head tail

-- a place of the run, as the code holds it, is the switch, the kind, the frame and the replies that wait
pub record Holds (sw : Switches) (waiting cur : List ℕ) (at : At) (nickname : ℕ) (kind : Kind) (f : List ℕ)
    (q : List Waiting) : Type 0 where
  pub named : switch_named (all_of sw) nickname ≡ Some (switch_at sw at.switch)
  pub within : at.switch < length sw.starts.now
  pub is_kind : kind_by at.replied ≡ kind
  pub small : at.size ≤ 2048
  pub is_frame : take at.size cur ≡ f
  pub held : Held sw waiting q at.head at.tail

abbrev pub Onwards : Switches → List ℕ → List ℕ → ℕ → Option At → Next → Type 0
Onwards sw waiting cur tail None over = Unit {0}
Onwards sw waiting cur tail None (next nickname kind f q) = ⊥
Onwards sw waiting cur tail (Some at) over = ⊥
Onwards sw waiting cur tail (Some at) (next nickname kind f q) = Holds sw waiting cur at nickname kind f q × (at.tail ≡ tail)

-- what is next, by the replies that wait
pub record Leads (sw : Switches) (waiting : List ℕ) (head tail : ℕ) (cur' : List ℕ) (r : Option At)
    (what : List Waiting → Next) : Type 0 where
  pub leads : (q : List Waiting) → Held sw waiting q head tail → Onwards sw waiting cur' tail r (what q)

-- the reply put in and what is next: what that needs, and what it does
pub record OnwardReady (sw : Switches) (a : Answer) (at : At) (out beside waiting : List ℕ) : Type 0 where
  pub wait : WaitReady sw a out beside waiting at.tail
  pub small : a.written ≤ 2048
  pub linked : a.number ≡ 50 → 8 ≤ a.written
  pub queue : Queue sw waiting at.head at.tail

pub record Onwarded (sw : Switches) (a : Answer) (at : At) (out beside waiting waiting' cur' : List ℕ) (r : Option At) : Type 0 where
  pub tail : ℕ
  pub more : tail ≤ at.tail + length (replies_by a out beside)
  pub leads : (q : List Waiting) → Held sw waiting q at.head at.tail
      → Onwards sw waiting' cur' tail r
      (onward_by (all_of sw) (kind_by at.replied) a out (q ++ staying (all_of sw) (replies_by a out beside)))
  pub same : length waiting' ≡ length waiting

-- one handling and what is next: what it needs, and what it does
pub record TurnReady (sw : Switches) (clock : List ℕ) (at : At) (cur waiting trace : List ℕ) (k : ℕ) : Type 0 where
  pub sound : IsSound sw
  pub within : at.switch < length sw.starts.now
  pub six : length clock ≡ 6
  pub small : at.size ≤ 2048
  pub entry_room : k * 8 + 8 ≤ length trace
  pub few : k < 4096
  pub queue : Queue sw waiting at.head at.tail
  pub free : 0 < length (replies_made (state_at sw clock at cur k).answer) → Free waiting at.tail

pub record Turned (sw : Switches) (clock : List ℕ) (at : At) (cur cur' waiting waiting' trace trace' : List ℕ) (k : ℕ)
    (r : Option At) : Type 0 where
  pub traced : trace' ≡ put trace (k * 8) (entry_octets (state_at sw clock at cur k))
  pub tail : ℕ
  pub more : tail ≤ at.tail + length (replies_made (state_at sw clock at cur k).answer)
  pub leads : (q : List Waiting) → Held sw waiting q at.head at.tail
      → Onwards sw waiting' cur' tail r (next_after (all_of sw) (kind_by at.replied) q (state_at sw clock at cur k).answer)
  pub same : length waiting' ≡ length waiting

-- what the loop needs: a frame that fits, room for the entries, and a slot for every reply that arises
pub record LoopReady (sw : Switches) (first : ℕ) (clock frame waiting trace : List ℕ) : Type 0 where
  pub sound : IsSound sw
  pub within : first < length sw.starts.now
  pub named : switch_named (all_of sw) (switch_at sw first).nickname ≡ Some (switch_at sw first)
  pub six : length clock ≡ 6
  pub short : length frame ≤ 2048
  pub most : length (run_of sw first clock frame) ≤ 4096
  pub room : 8 * length (run_of sw first clock frame) ≤ length trace
  pub slots : 579 * replies_in (run_of sw first clock frame) ≤ length waiting

-- the first place of the run
pub record Begun (first : ℕ) (frame cur : List ℕ) (at : At) : Type 0 where
  pub is : at ≡ record { switch = first; replied = false; size = length frame; head = 0; tail = 0 }
  pub holds : take (length frame) cur ≡ frame
