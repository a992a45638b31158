-- The run as the code makes it: what an entry holds, what one handling does, and what the run needs and comes to.
use Rattle.std.specs.Prelude.{ℕ, suc, ◌+◌, ◌*◌, ◌≤◌, ◌<◌, ◌≡◌, List, [], ◌∷◌, ◌++◌, Bool, true, false, length, take, Option, Some}
use Rattle.rules.specs.Octets.{be16, octets16, put}
use Rattle.rules.specs.Settings.{Settings, ways_of}
use Rattle.rules.specs.Answer.{Handled}
use Rattle.rules.specs.Handling.{handling, handled_with}
use Rattle.rules.specs.Campus.{switch_named, Kind, original, reply, State, run_from, handlings_most, plain_run, trace_needed}
use Rattle.rules.specs.Campus.{writes_reply, hop_received, egress_received, kind_octet, entry_octets, trace_octets, described, refused, accepted}
use Rattle.handler.specs.declared.answers.Answer.{Answer}
use Rattle.handler.specs.Tasks.{Both}
use Rattle.campus.specs.Places.{entry_value, described_by}
use Rattle.campus.specs.Stores.{Accepts}
use Rattle.campus.specs.Switches.{switch_at, all_of, IsSoundAt}
use Rattle.campus.specs.declared.switches.Switches.{Switches}
use Rattle.campus.specs.declared.received.HopEgress.{HopEgress}
use Rattle.campus.specs.declared.running.At.{At}

unfoldable pub received_of : List ℕ → HopEgress
received_of f = record { hop = hop_received f; egress = egress_received f }

abbrev pub kind_by : Bool → Kind
kind_by false = original
kind_by true = reply

abbrev pub entry_by : ℕ → Kind → ℕ → List ℕ → List ℕ
entry_by nickname kind number f = octets16 nickname ++ (kind_octet kind ∷ number ∷ hop_received f ∷ 0 ∷ []) ++ octets16 (egress_received f)

-- the handling of a frame by settings, with the room of both buffers
abbrev pub handled_by : Settings → List ℕ → ℕ → ℕ → List ℕ → Handled
handled_by S clock room beside_room f = handled_with (ways_of S) clock room beside_room f

-- one handling, the k-th after the first: what it needs,
pub record StepReady (sw : Switches) (clock : List ℕ) (at : At) (trace : List ℕ) (k : ℕ) : Type 0 where
  pub sound : IsSoundAt sw at.switch
  pub six : length clock ≡ 6
  pub small : at.size ≤ 2048
  pub entry_room : k * 8 + 8 ≤ length trace
  pub few : k < 4096

abbrev pub state_of : ℕ → List ℕ → Settings → Kind → List ℕ → State
state_of k clock S kind f = record { handling_no = suc k; switch = S; kind = kind; frame = f; answer = handling (ways_of S) clock f }

abbrev pub state_at : Switches → List ℕ → At → List ℕ → ℕ → State
state_at sw clock at cur k = state_of k clock (switch_at sw at.switch) (kind_by at.replied) (take at.size cur)

-- and what it does: both frames are written, what is forwarded has a link header, a reply is short, and the entry stands in the trace
pub record Stepped (k : ℕ) (state : State) (out out' beside beside' trace trace' : List ℕ) (r : Answer) : Type 0 where
  pub both : Both state.answer r out out' beside beside'
  pub traced : trace' ≡ put trace (k * 8) (entry_octets state)
  pub small : r.written ≤ 2048
  pub linked : r.number ≡ 50 → 8 ≤ r.written
  pub short : writes_reply r.number ≡ true → r.written ≤ 576
  pub short_beside : r.beside ≤ 576

-- the states of a run counted and traced
pub record Ran (states : List State) (trace trace' : List ℕ) (count : ℕ) : Type 0 where
  pub counted : count ≡ length states
  pub traced : trace' ≡ put trace 0 (trace_octets states)

abbrev pub run_of : Switches → ℕ → List ℕ → List ℕ → List State
run_of sw first clock frame = run_from handlings_most 1 (all_of sw) clock (switch_at sw first).nickname original frame []

-- the room for a trace, by whether a switch has edition 2
abbrev pub needed_by : Bool → ℕ
needed_by true = 32768
needed_by false = 640

-- what the run needs: an accepted description, its stores and places, and room for the trace
pub record RunReady (s : List ℕ) (sw : Switches) (clock : Option ℕ) (place : ℕ) (trace : List ℕ) : Type 0 where
  pub read : Accepts s sw.words.now sw.starts.now (length sw.starts.now) clock place
  pub room : trace_needed (described_by s read.switches clock place) ≤ length trace

-- and the run at its entry switch, which the store `first` stands for; `v` is the value of the entry field
pub record EntryReady (s : List ℕ) (sw : Switches) (clock : Option ℕ) (place first : ℕ) (v trace : List ℕ) : Type 0 where
  pub ready : RunReady s sw clock place trace
  pub value : v ≡ entry_value s place
  pub within : first < length sw.starts.now
  pub entry : Settings
  pub entered : switch_named ready.read.switches (be16 v 0) ≡ Some entry
  pub same : ways_of entry ≡ ways_of (switch_at sw first)
  pub named : switch_named (all_of sw) (be16 v 0) ≡ Some (switch_at sw first)

-- the plain run of a description, none where it is refused
unfoldable pub states_of : List ℕ → List State
states_of s = elim (described s) [ refused code ↦ [] | accepted d ↦ plain_run d ]
