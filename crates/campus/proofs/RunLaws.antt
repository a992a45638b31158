-- The run as the code makes it. One handling: what its entry says, and what it leaves in the buffers. Then the loop: the states so far are traced, and the
-- run from here, with the replies that wait, is the rest of the whole. One law for each need, for `search` to cite.
use Rattle.std.specs.Prelude.{Result, Ok, Err}
use Rattle.std.specs.Prelude.{Option, Some, None}
use mathlib.Core.Path.{◌≡◌, refl, sym, ap, ◌∙◌}
use mathlib.Core.List.{List, [], ◌∷◌, ◌++◌, append_assoc, append-nil}
use mathlib.Core.Bool.{Bool, false, true≢false}
use Prim.Native.Nat.{ℕ, suc, ◌+◌, ◌-◌, ◌*◌, ◌/◌, ◌%◌, ◌<◌, ◌≤◌}
use native.Mathlib.Omega.{arith}
use native.Mathlib.Numerals.{add-one}
use borrow.Author.Rules.{rules}
use lib.ListN.{length, get_or, take, length-take, length-append}
use Rattle.rules.specs as rules
use rules.{Octets.put, Settings.Settings, Settings.Ways, Settings.ways_of}
use rules.Link.{link}
use rules.{Header.hop_count, Header.read_frame, Handling.handling, Answer.Handled, Answer.given, Demand.replies_in}
use rules.Campus.{hop_received, egress_received, kind_octet, entry_octets, Kind, State, Waiting, replies_made, staying, Next, over, next, sent_on}
use rules.Campus.{next_after, run_from, trace_octets}
use rules.declared.{Header.Header, Number.Number}
use Rattle.rules.proofs as rule_laws
use rule_laws.{StepLaws.reply_short}
use rule_laws.HandledLaws.{final, How, ends, forwards, faults, echoes, how, Bounded, handling_bounded}
use rule_laws.HandlingLaws.{frame_handled, length_forwarded}
use rule_laws.FrameLaws.{link_length_lem, link_written}
use rule_laws.OctetLaws.{length_put, put_put, put_none, take_put}
use rule_laws.RunLaws.{run_step, rest, no_replies, replies_on, length_trace}
use Rattle.octets.specs.Copy.{Wrote, fitting}
use Rattle.octets.proofs.Ends.{copied}
use Rattle.stores.specs.Store.{handled_in}
use Rattle.handler.specs.declared.answers.Answer.{Answer}
use Rattle.handler.specs.Tasks.{Both}
use Rattle.stores.proofs.IndexLaws.{good_whole}
use Rattle.campus.specs
use specs.declared.received.HopEgress.{HopEgress}
use specs.declared.running.At.{At}
use specs.Stores.{store_at, settings_at, SoundAt}
use specs.Switches.{switch_at, all_of}
use specs.declared.switches.Switches.{Switches}
use specs.Steps.{received_of, kind_by, entry_by, handled_by, StepReady, state_at, Stepped, Ran, run_of}
use specs.Queue.{replies_by, Free, Queue, Holds, Onwards, onward_by, OnwardReady, Onwarded, TurnReady, Turned, LoopReady, Begun}
use Rattle.campus.proofs.{StoresLaws.name_here, QueueLaws.copied_begins}

-- hop count and egress of a frame, by what it is read as
module _ (f : List ℕ) (read : Result Header Number) (is : read ≡ read_frame f) where
  pub received_none : {number : Number} → read ≡ Err number → record { hop = 0; egress = 0 } ≡ received_of f
  unfolding received_of hop_received egress_received
  received_none e = rw (received_of, hop_received, egress_received, ← is, e)

  pub received_trill : {h : Header} {low hop : ℕ} → read ≡ Ok h → low ≡ h.word % 256 → hop ≡ hop_count (low % 256)
      → record { hop = hop; egress = h.egress } ≡ received_of f
  unfolding received_of hop_received egress_received
  received_trill {h} {hop = hop} e l n =
      let its : hop ≡ hop_count h.word = omega arith in
      rw (its, received_of, hop_received, egress_received, ← is, e)

pub ruleset received_laws = (rules, received_none, received_trill)

-- an entry's eight octets, written where there is room for them
pub entry_put : {trace' : List ℕ} (trace : List ℕ) (at nickname : ℕ) (replied : Bool) (number : ℕ) (f : List ℕ) {a b kind : ℕ} {h : HopEgress} {x y end : ℕ}
    → Wrote (fitting trace at (a ∷ b ∷ kind ∷ number ∷ h.hop ∷ 0 ∷ x ∷ y ∷ [])) at end trace trace' → h ≡ received_of f → a ≡ nickname / 256 % 256
    → b ≡ nickname % 256 → kind ≡ kind_octet (kind_by replied) → x ≡ h.egress / 256 % 256 → y ≡ h.egress % 256 → at + 8 ≤ length trace
    → trace' ≡ put trace at (entry_by nickname (kind_by replied) number f)
unfolding received_of
entry_put trace at nickname replied number f w r ea eb ek ex ey room =
    (copied w refl (omega arith)).after ∙ rw (ea, eb, ek, ex, ey, r)

pub ruleset put_entry_laws = (rules, entry_put)

-- a store's nickname, and a handling by it
module _ {w starts : List ℕ} {i : ℕ} (s : SoundAt w starts i) where
  pub nickname_is : get_or w (get_or starts i 0) 0 ≡ (settings_at w starts i).nickname
  nickname_is = sym (name_here w starts i)

  pub nickname_small : get_or w (get_or starts i 0) 0 < 65536
  nickname_small = omega (arith, nickname_is, (good_whole (store_at w starts i) s.good).named)

  pub handled_by_lem : (clock frame store : List ℕ) {out out' beside beside' : List ℕ} {r : Answer} → store ≡ store_at w starts i
      → Both (handled_in store clock (length out) (length beside) frame) r out out' beside beside'
      → length out ≡ 2048 → length beside ≡ 576 → Both (handled_by (settings_at w starts i) clock 2048 576 frame) r out out' beside beside'
  unfolding handled_in
  handled_by_lem clock frame store is b long long_beside =
      rw (long, long_beside, is, handled_in, s.good, s.says) at b

pub ruleset nickname_of_laws = (rules, nickname_is, nickname_small)

pub ruleset handled_laws = (rules, handled_by_lem)

-- what is forwarded has a link header, so 8 octets at least
forwards_linked : (S : Ways) (clock f : List ℕ) {a : Handled} → How S clock f a → a.number ≡ 50 → 8 ≤ length a.octets
unfolding given
forwards_linked S clock f {a} (ends o) e = absurd (true≢false (sym o.closed ∙ ap final e))
forwards_linked S clock f (forwards h r t found fits b) e =
    omega (arith, length_forwarded S r f h, (link_written S r).long, link_length_lem (link S r))
forwards_linked S clock f (faults h r code t two found c) e = absurd (omega arith)
forwards_linked S clock f (echoes h r t found c) e = absurd (omega arith)

-- what is left of a handling
module _ {sw : Switches} {clock : List ℕ} {at : At} {trace : List ℕ} {k : ℕ} (ready : StepReady sw clock at trace k) (frame cur : List ℕ)
    (is : frame ≡ take at.size cur) (out out' beside beside' : List ℕ) (a : Answer)
    (h : Both (handled_by (switch_at sw at.switch) clock 2048 576 frame) a out out' beside beside') where
  abbrev T : Settings
  T = switch_at sw at.switch

  frame_short : length frame ≤ 2048
  frame_short = rw (is, length-take) (omega arith)

  bounded : Bounded (handling (ways_of T) clock frame)
  bounded = handling_bounded (ways_of T) clock frame ready.six frame_short

  both : Both (handling (ways_of T) clock frame) a out out' beside beside'
  both = rw (frame_handled (ways_of T) clock 2048 576 frame ready.six (omega arith) (omega arith) frame_short) at h

  pub step_number : a.number < 64
  step_number = rw both.answer bounded.number_small

  pub step_done : {trace' : List ℕ}
      → trace' ≡ put trace (k * 8) (entry_by (switch_at sw at.switch).nickname (kind_by at.replied) a.number frame)
      → Stepped k (state_at sw clock at cur k) out out' beside beside' trace trace' a
  unfolding entry_octets
  step_done e =
      let named : T.nickname < 65536 = rw (← nickname_is ready.sound) (nickname_small ready.sound) in
      rw (← is)
      (record {
        both = both;
        traced = e ∙ rw both.answer;
        small = rw both.answer bounded.fits;
        linked = λ t. rw both.answer (forwards_linked (ways_of T) clock frame (how (ways_of T) clock frame) (rw both.answer at t));
        short = λ t. rw both.answer (reply_short T clock frame named ready.six (rw both.answer at t));
        short_beside = rw both.answer bounded.fits_beside;
      })

pub ruleset step_laws = (rules, step_number, step_done)

pub trace_none : trace_octets [] ≡ []
unfolding trace_octets
trace_none = refl

trace_snoc : (l : List State) (s : State) → trace_octets (l ++ (s ∷ [])) ≡ trace_octets l ++ entry_octets s
unfolding trace_octets
trace_snoc [] s = append-nil (entry_octets s)
trace_snoc (x ∷ l) s = rw (trace_snoc l s, append_assoc)

entry_length : (s : State) → length (entry_octets s) ≡ 8
unfolding entry_octets
entry_length s = refl

no_more : (l : List State) → length l ≡ 0 → l ≡ []
no_more [] e = refl
no_more (x ∷ l) e = absurd (omega arith)

replies_join : (a b : List State) → replies_in (a ++ b) ≡ replies_in a + replies_in b
replies_join [] b = omega (arith, no_replies)
replies_join (s ∷ a) b = omega (arith, replies_on s (a ++ b), replies_on s a, replies_join a b)

-- what was made and what is next, by the answer's numbers and by both buffers
module _ {h : Handled} {a : Answer} {out out' beside beside' : List ℕ} (b : Both h a out out' beside beside') where
  replies_are : replies_by a out' beside' ≡ replies_made h
  unfolding replies_by replies_made
  replies_are = rw (b.answer, b.after, b.after_beside, take_put out h.octets, take_put beside h.beside)

  next_is : (switches : List Settings) (kind : Kind) (q : List Waiting)
      → onward_by switches kind a out' (q ++ staying switches (replies_made h)) ≡ next_after switches kind q h
  unfolding onward_by next_after sent_on
  next_is switches kind q = rw (b.answer, b.after, take_put out h.octets)

-- one handling, and what is next
module _ {sw : Switches} {clock : List ℕ} {at : At} {cur waiting trace : List ℕ} {k : ℕ} where
  pub turn_step : TurnReady sw clock at cur waiting trace k → StepReady sw clock at trace k
  turn_step ready =
      let sound = ready.sound.each at.switch ready.within in
      search

  module _ {a : Answer} {out out' beside beside' trace' : List ℕ}
      (did : Stepped k (state_at sw clock at cur k) out out' beside beside' trace trace' a) where
    pub turn_onward : TurnReady sw clock at cur waiting trace k → OnwardReady sw a at out' beside' waiting
    turn_onward ready =
        let free : 0 < length (replies_by a out' beside') → Free waiting at.tail = λ z. ready.free (rw (replies_are did.both) at z) in
        search

    pub turn_done : {waiting' cur' : List ℕ} {r : Option At} → Onwarded sw a at out' beside' waiting waiting' cur' r
        → Turned sw clock at cur cur' waiting waiting' trace trace' k r
    turn_done led =
        record {
          traced = did.traced;
          tail = led.tail;
          more = rw (replies_are did.both) at led.more;
          leads = λ q x.
              rw (← next_is did.both (all_of sw) (kind_by at.replied) q, ← replies_are did.both) (led.leads q x);
          same = led.same;
        }

pub ruleset turn_laws = (rules, turn_step, turn_onward, turn_done)

-- what the loop keeps
pub record RunSoFar (sw : Switches) (first : ℕ) (clock frame waiting₀ trace₀ waiting trace cur : List ℕ) (at : At) (k : ℕ) : Type 0 where
  pub ready : LoopReady sw first clock frame waiting₀ trace₀
  pub done : List State
  pub nickname : ℕ
  pub queue : List Waiting
  pub long : length done ≡ k
  pub is : trace ≡ put trace₀ 0 (trace_octets done)
  pub remains : done ++ run_from (4097 - k) (suc k) (all_of sw) clock nickname (kind_by at.replied) (take at.size cur) queue
      ≡ run_of sw first clock frame
  pub holds : Holds sw waiting cur at nickname (kind_by at.replied) (take at.size cur) queue
  pub made : at.tail ≤ replies_in done
  pub most : k ≤ 4096
  pub same : length trace ≡ length trace₀
  pub same_waiting : length waiting ≡ length waiting₀

-- the frame copied to where the run takes it from, and the run begun
pub begun_so : (first : ℕ) {frame cur cur' : List ℕ} {end : ℕ} → Wrote (fitting cur 0 frame) 0 end cur cur' → length frame ≤ 2048 → length cur ≡ 2048
    → Begun first frame cur' (record { switch = first; replied = false; size = length frame; head = 0; tail = 0 })
begun_so first c short long = record { is = refl; holds = copied_begins c (omega arith) }

pub ruleset begin_laws = (rules, begun_so)

pub run_begins : {sw : Switches} {first : ℕ} {clock frame waiting₀ trace₀ : List ℕ} → LoopReady sw first clock frame waiting₀ trace₀
    → {cur : List ℕ} {at : At} → Begun first frame cur at → RunSoFar sw first clock frame waiting₀ trace₀ waiting₀ trace₀ cur at 0
run_begins {sw} {first} {clock} {frame} {waiting₀} {trace₀} ready b =
    rw b.is
    (record {
      ready = ready;
      done = [];
      nickname = (switch_at sw first).nickname;
      queue = [];
      long = refl;
      is = rw trace_none (sym (put_none trace₀ 0));
      remains = rw b.holds;
      holds = search;
      made = omega arith;
      most = omega arith;
      same = refl;
      same_waiting = refl;
    })

module _ {sw : Switches} {first : ℕ} {clock frame waiting₀ trace₀ waiting trace cur : List ℕ} {at : At} {k : ℕ}
    (l : RunSoFar sw first clock frame waiting₀ trace₀ waiting trace cur at k) where
  abbrev whole : List State
  whole = run_of sw first clock frame

  abbrev switches : List Settings
  switches = all_of sw

  abbrev kind : Kind
  kind = kind_by at.replied

  abbrev state : State
  state = state_at sw clock at cur k

  abbrev h : Handled
  h = handling (ways_of (switch_at sw at.switch)) clock (take at.size cur)

  pub run_full : 4096 ≤ k → Ran whole trace₀ trace 4096
  run_full z =
      let left = run_from (4097 - k) (suc k) switches clock l.nickname kind (take at.size cur) l.queue in
      let zero_is : length left ≡ 0 = omega (arith, sym (length-append l.done left) ∙ ap length l.remains) in
      rw (← l.remains, no_more left zero_is, append-nil) (record { counted = omega (arith, l.long, l.most); traced = l.is })

  module _ (more : k < 4096) where
    -- the handling, and all after it
    later : List State
    later = rest switches clock (4096 - k) (suc k) (next_after switches kind l.queue h)

    rest_is : l.done ++ (state ∷ later) ≡ whole
    unfolding later
    rest_is =
        let fuel : 4097 - k ≡ suc (4096 - k) = omega arith in
        rw (← run_step switches clock (4096 - k) (suc k) l.nickname kind (take at.size cur) l.queue
        (switch_at sw at.switch) l.holds.named) (rw fuel at l.remains)

    enough : k + 1 ≤ length whole
    enough = omega (arith, sym (length-append l.done (state ∷ later)) ∙ ap length rest_is)

    pub turn_ready : TurnReady sw clock at cur waiting trace k
    turn_ready =
        let replies = sym (replies_join l.done (state ∷ later)) ∙ ap replies_in rest_is in
        let queue : Queue sw waiting at.head at.tail = record { queue = l.queue; held = l.holds.held } in
        let free : 0 < length (replies_made h) → Free waiting at.tail = omega (arith, replies_on state later) in
        let entry_room : k * 8 + 8 ≤ length trace = omega (arith, enough) in
        search

    module _ {waiting' trace' cur' : List ℕ} {r : Option At} (did : Turned sw clock at cur cur' waiting waiting' trace trace' k r) where
      entered : trace' ≡ put trace₀ 0 (trace_octets (l.done ++ (state ∷ [])))
      entered =
          let long = length_trace l.done in
          did.traced
          ∙ rw (l.is, trace_snoc)
          (put_put trace₀ 0 (trace_octets l.done) (k * 8) (entry_octets state) (omega arith))

      pub trace_same : length trace' ≡ length trace₀
      trace_same =
          rw did.traced
          (length_put trace (k * 8) (entry_octets state) (omega (arith, entry_length state, enough)) ∙ l.same)

      one_more : length (l.done ++ (state ∷ [])) ≡ k + 1
      one_more = rw length-append (omega arith)

      turned : Onwards sw waiting' cur' did.tail r (next_after switches kind l.queue h)
      turned = did.leads l.queue l.holds.held

      pub run_ends : r ≡ None → Ran whole trace₀ trace' (k + 1)
      unfolding later rest
      run_ends e =
          let last : next_after switches kind l.queue h ≡ over =
          elim (next_after switches kind l.queue h) as (λ x. Onwards sw waiting' cur' did.tail None x → x ≡ over) [
            | over ↦ λ o. refl
            | next n' kind' g q' ↦ λ o. absurd o
          ] (rw e at turned) in
          rw (← (rw last at rest_is)) (record { counted = sym one_more; traced = entered })

      pub run_goes_on : {at' : At} → r ≡ Some at' → RunSoFar sw first clock frame waiting₀ trace₀ waiting' trace' cur' at' (k + 1)
      unfolding later rest
      run_goes_on {at'} e = go (next_after switches kind l.queue h) refl (rw e at turned)
        where
          go : (x : Next) → next_after switches kind l.queue h ≡ x → Onwards sw waiting' cur' did.tail (Some at') x
              → RunSoFar sw first clock frame waiting₀ trace₀ waiting' trace' cur' at' (k + 1)
          go over z o = absurd o
          go (next n' kind' g q') z o =
              let held = o.0 in
              let less : 4097 - (k + 1) ≡ 4096 - k = omega arith in
              record {
                ready = l.ready;
                done = l.done ++ (state ∷ []);
                nickname = n';
                queue = q';
                long = one_more;
                is = entered;
                remains = rw (less, add-one, held.is_kind, held.is_frame, append_assoc l.done) (rw z at rest_is);
                holds = rw (held.is_kind, held.is_frame) held;
                made = omega (arith, replies_join l.done (state ∷ []), replies_on state [], no_replies);
                most = omega arith;
                same = trace_same;
                same_waiting = did.same ∙ l.same_waiting;
              }

pub ruleset run_from_laws = (rules, run_begins, run_full, turn_ready, trace_same, run_ends, run_goes_on)
