-- A task carried out: the answer without what is replied to an alert, the reply to one, and both together as the rules have them. By one law for each need.
use Rattle.std.specs.Prelude.{Option, Some, None, Result, Ok, Err}
use Rattle.rules.specs as rules
use rules.Handling.{forwarded_rest, forwarded, onward, faulted, echoed, routed, transit, alerted, alert_of, channelled}
use rules.{Settings.Ways, Options.WellFormed, Options.draft_stops, Link.link}
use rules.{Header.op_length, Header.area_of, Header.inner_of, Header.we_are_egress}
use rules.Extension.{area_sent, area_read, area_stops, flag_unsummarized, summary_bare, extension_read, extension_stops}
use rules.Channel.{reply_inner, body_of, reply_mode, silenced, return_path, error_reply, echo_reply, reply_rest, channel_read}
use Rattle.handler.proofs
use proofs.StageLaws.{by_hop, ready, inner_held, area_held, done_dropped, done_unwritten, plain_sent}
use proofs.RouteLaws.{area_made, read_well, arrives_faulty}
use proofs.Walks.{area_short}
use mathlib.Core.Path.{◌≡◌, refl, sym, ap, ◌∙◌}
use mathlib.Core.List.{List, [], ◌++◌, append_assoc}
use mathlib.Core.Bool.{Bool, true, false, not, ◌&&◌, true≢false}
use Prim.Native.Nat.{ℕ, ◌+◌, ◌-◌, ◌≤◌}
use native.Mathlib.Omega.{arith}
use borrow.Author.Rules.{rules}
use borrow.Author.Tests.{not-true, not-false}
use lib.Dec.{ltb, eqb}
use lib.Seq.{length-take-le, drop-append-le}
use lib.ListN.{length, length-append, length-take, length-drop, take, drop, take-append-drop, get_or, get_or-eq_default}
use rules.declared.{NextHop.NextHop, Header.Header, Alert.Alert, ChannelRead.ChannelRead}
use rules.declared.Alert.TheVariants.{NoAlert, AlertFault, AlertErr, AlertRequest}
use rules.declared.ChannelRead.TheVariants.{Fault, BadErr, ErrorHeard, BadEcho, EchoHeard, EchoRequest}
use Rattle.rules.proofs.{TestLaws.by_test, OctetLaws.put_none, OctetLaws.put_front}
use Rattle.rules.proofs.HandlingLaws.{echo_ranged, channel_echo, routed_egress, routed_transit}
use Rattle.handler.specs
use specs.declared.answers.Answer.{Answer}
use specs.declared.options.AreaFault.{AreaFault}
use rules.declared.{Number.Number, ChannelFault.ChannelFault}
use specs.declared.way.{Own.Own, Lookup.Lookup}
use specs.declared.handling.{Local.Local, Task.Task}
use specs.declared.handling.Local.TheVariants.{Dropped, Answered, Message}
use specs.Tasks.{PutAside, alert_refusal, alert_quiet, transit_quiet, transit_at, messaged, local_at, asks_back, Answerable}
use specs.Tasks.{Ends, Comes, Routes, Arrives, Replies, Both}
use specs.Shapes.{sent_of, answer_of, wrote_by, beside_by, Owns, Sends, only_for, ways_by, Ready, Done}
use Rattle.rules.specs.Answer as A

-- 21, the alert's 25 and 26, and 50
module _ (T : Ways) (f : List ℕ) (h : Header) (alert : Alert) (out : List ℕ) (R : Option NextHop) (asks : R ≡ T.hop h.egress) where
  pub transit_lost : (a : Answer) → a ≡ answer_of (A.dropped 21) → R ≡ None → Done (transit_quiet T f h alert) a out out
  unfolding transit_quiet
  transit_lost a is e = done_dropped 21 (cc) is

  module _ (r : NextHop) (found : R ≡ Some r) (x : Result (Unit {0}) Number) (refuses : x ≡ alert_refusal alert) (a : Answer) where
    pub transit_refused : (n : Number) → x ≡ Err n → a ≡ answer_of (A.dropped (A.number_of n)) → Done (transit_quiet T f h alert) a out out
    unfolding transit_quiet
    transit_refused n e is = done_dropped (A.number_of n) (rw (transit_quiet, sym asks ∙ found, ← refuses, e)) is

    pub transit_sent : {passed : Unit {0}} → x ≡ Ok passed → (out1 : List ℕ) → Done (onward T r f h [] 0) a out out1 → Done (transit_quiet T f h alert) a out out1
    unfolding transit_quiet
    transit_sent e out1 d = rw (transit_quiet, sym asks ∙ found, ← refuses, e) d

pub plain_forwarded : (T : Ways) (f : List ℕ) (h : Header) (R : Option NextHop) → R ≡ T.hop h.egress → (r : NextHop) → R ≡ Some r
    → (a : Answer) (out out1 : List ℕ) → Done (onward T r f h [] 0) a out out1 → Done (transit_quiet T f h NoAlert) a out out1
plain_forwarded T f h R asks r found a out out1 = transit_sent T f h NoAlert out R asks r found (Ok Prim.tt) refl a refl out1

pub ruleset transit_laws = (rules, transit_lost, transit_refused, transit_sent)

pub ruleset forward_laws = (rules, plain_sent, transit_lost, plain_forwarded)

-- what a channel message comes to, by what it is found to be
module _ (S : Ways) (clock f : List ℕ) (h : Header) (inner : List ℕ) (held : inner ≡ inner_of f h) (read : ChannelRead) (is : read ≡ channel_read inner)
    (r : Answer) (out : List ℕ) where
  pub message_fault : (x : ChannelFault) → read ≡ Fault x → (out1 : List ℕ) → Done (faulted S f h (A.err_of x)) r out out1 → Done (messaged S clock f h) r out out1
  unfolding channelled
  message_fault x e out1 d = let found : channel_read (inner_of f h) ≡ Fault x = cc in rw found d

  pub message_request : read ≡ EchoRequest → (out1 : List ℕ) → Done (echoed S clock f h) r out out1 → Done (messaged S clock f h) r out out1
  unfolding channelled
  message_request e out1 d = let found : channel_read (inner_of f h) ≡ EchoRequest = cc in rw found d

  unanswered : (n : ℕ) (c : ChannelRead) → channelled S clock f h c ≡ A.dropped n → read ≡ c
      → r ≡ answer_of (A.dropped n) → Done (messaged S clock f h) r out out
  unanswered n c so e made = let found : channel_read (inner_of f h) ≡ c = cc in done_dropped n (rw found so) made

  pub message_err : read ≡ BadErr → r ≡ answer_of (A.dropped 26) → Done (messaged S clock f h) r out out
  unfolding channelled
  message_err = unanswered 26 BadErr refl

  pub message_error : read ≡ ErrorHeard → r ≡ answer_of (A.dropped 55) → Done (messaged S clock f h) r out out
  unfolding channelled
  message_error = unanswered 55 ErrorHeard refl

  pub message_bad : read ≡ BadEcho → r ≡ answer_of (A.dropped 27) → Done (messaged S clock f h) r out out
  unfolding channelled
  message_bad = unanswered 27 BadEcho refl

  pub message_echo : read ≡ EchoHeard → r ≡ answer_of (A.dropped 56) → Done (messaged S clock f h) r out out
  unfolding channelled
  message_echo = unanswered 56 EchoHeard refl

module _ (f : List ℕ) (h : Header) (inner : List ℕ) (held : inner ≡ inner_of f h) (read : ChannelRead) (is : read ≡ channel_read inner)
    (e : read ≡ EchoRequest) where
  ranged : (18 ≤ length (body_of (inner_of f h))) × (length (body_of (inner_of f h)) ≤ 530)
  ranged = echo_ranged (body_of (inner_of f h)) (channel_echo (inner_of f h) (cc))

  pub request_18 : 18 ≤ length (body_of (inner_of f h))
  request_18 = ranged.0

  pub request_530 : length (body_of (inner_of f h)) ≤ 530
  request_530 = ranged.1

pub ruleset message_laws = (
  rules,
  message_fault,
  message_request,
  message_err,
  message_error,
  message_bad,
  message_echo,
  request_18,
  request_530,
)

-- what is not forwarded
module _ (S : Ways) (clock f : List ℕ) (h : Header) (local : Local) (r : Answer) (out : List ℕ) where
  pub local_dropped : (n : Number) → local ≡ Dropped n → r ≡ answer_of (A.dropped (A.number_of n)) → Done (local_at S clock f h local) r out out
  local_dropped n e is = rw e (done_dropped (A.number_of n) refl is)

  pub local_answered : (n : Number) (start size : ℕ) → local ≡ Answered n start size → r ≡ answer_of (A.delivered (A.number_of n) start size) → Done (local_at S clock f h local) r out out
  local_answered n start size e is = rw e (done_unwritten (A.number_of n) start size refl is)

  pub local_message : local ≡ Message → (out1 : List ℕ) → Done (messaged S clock f h) r out out1 → Done (local_at S clock f h local) r out out1
  local_message e out1 d = rw e d

module _ {local : Local} (x : Ends local) where
  pub ends_start : (n : Number) (start size : ℕ) → local ≡ Answered n start size → start ≤ 2048
  ends_start n start size e = (rw e at x).0

  pub ends_size : (n : Number) (start size : ℕ) → local ≡ Answered n start size → size ≤ 2048
  ends_size n start size e = (rw e at x).1

-- a message is answered by a number, what was written and its neighbour
abbrev Bare : A.Handled → Type 0
Bare a = answer_of a ≡ wrote_by a.number (length a.octets) a.via

message_bare : (S : Ways) (clock f : List ℕ) (h : Header) (c : ChannelRead) → Bare (channelled S clock f h c)
unfolding channelled faulted echoed
message_bare S clock f h (Fault code) =
    by_test (silenced (A.err_of code) (inner_of f h)) (λ t. rw t refl) (λ t. by_hop (return_path S h.ingress) (λ q. rw (t, q) refl) (λ r q. rw (t, q) refl))
message_bare S clock f h BadErr = refl
message_bare S clock f h ErrorHeard = refl
message_bare S clock f h BadEcho = refl
message_bare S clock f h EchoHeard = refl
message_bare S clock f h EchoRequest =
    by_test (not (eqb (reply_mode (body_of (inner_of f h))) 2)) (λ t. rw t refl)
    (λ t. by_hop (return_path S h.ingress) (λ q. rw (t, q) refl) (λ r q. rw (t, q) refl))

pub reply_copied : (S : Ways) (clock f : List ℕ) (h : Header) (r a : Answer) → r ≡ wrote_by a.number a.written a.neighbour → (out out1 : List ℕ)
    → Done (messaged S clock f h) a out out1 → Done (messaged S clock f h) r out out1
reply_copied S clock f h r a made out out1 d =
    record {
      answer = made ∙ rw d.answer (sym (message_bare S clock f h (channel_read (inner_of f h))));
      after = d.after;
      alone = d.alone;
    }

pub room_576 : (out : List ℕ) → 2048 ≤ length out → 576 ≤ length out
room_576 out h = omega arith

pub ruleset local_laws = (rules, reply_copied, local_dropped, local_answered, local_message, ends_start, ends_size, room_576)

-- with nothing beside it
pub both_of : {a : A.Handled} {r : Answer} {out out1 : List ℕ} (beside : List ℕ) → Done a r out out1 → Both a r out out1 beside beside
both_of beside d = record { answer = d.answer; after = d.after; after_beside = rw d.alone (sym (put_none beside 0)) }

numbered : {a : A.Handled} {r : Answer} {out out1 : List ℕ} → Done a r out out1 → r.number ≡ a.number
numbered d = ap (λ (x : Answer). x.number) d.answer

-- what is looked up for one destination says as much of it as the switch: of the ingress for a message, of the egress for a frame in transit
module _ (S : Ways) (f : List ℕ) (h : Header) where
  pub same_channelled : (clock : List ℕ) (c : ChannelRead) → channelled S clock f h c ≡ channelled (only_for h.ingress S) clock f h c
  unfolding channelled faulted echoed return_path error_reply echo_reply reply_rest reply_inner link
  same_channelled clock (Fault code) = refl
  same_channelled clock BadErr = refl
  same_channelled clock ErrorHeard = refl
  same_channelled clock BadEcho = refl
  same_channelled clock EchoHeard = refl
  same_channelled clock EchoRequest = refl

  same_quiet : (alert : Alert) → transit_quiet S f h alert ≡ transit_quiet (only_for h.egress S) f h alert
  unfolding transit_quiet onward forwarded forwarded_rest area_sent link
  same_quiet alert = refl

  pub same_message : (t : Lookup) → ways_by t ≡ only_for h.ingress S → (clock : List ℕ) → messaged S clock f h ≡ messaged (ways_by t) clock f h
  same_message t said clock = rw (same_channelled clock (channel_read (inner_of f h)), ← said)

  module _ (t : Lookup) (r : Answer) (out out1 : List ℕ) where
    pub back_message : ways_by t ≡ only_for h.ingress S → (clock : List ℕ) → Done (messaged (ways_by t) clock f h) r out out1
        → Done (messaged S clock f h) r out out1
    back_message said clock d = rw (same_message t said clock) d

    pub quiet_lookup : ways_by t ≡ only_for h.egress S → (alert : Alert) → Done (transit_quiet (ways_by t) f h alert) r out out1
        → Done (transit_quiet S f h alert) r out out1
    quiet_lookup said alert d = rw (same_quiet alert, ← said) d

  pub sends_lookup : (t : Lookup) (d : ℕ) → ways_by t ≡ only_for d S → (area : List ℕ) → Sends S f h area → Sends (ways_by t) f h area
  unfolding area_sent
  sends_lookup t d said area x = rw said (record { goes = x.goes; few = x.few })

-- a frame without an area
area_none : (f : List ℕ) (h : Header) → op_length h.word ≡ 0 → area_of f h ≡ []
area_none f h e = rw e

nil_octet : (i : ℕ) → get_or {A = ℕ} [] i 0 ≡ 0
nil_octet i = get_or-eq_default [] 0 {n = i} (omega arith)

module _ (S : Ways) (clock f : List ℕ) (h : Header) (none : op_length h.word ≡ 0) where
  pub none_read : area_read S (area_of f h) ≡ WellFormed
  unfolding area_read extension_read flag_unsummarized summary_bare
  none_read = rw (area_none f h none) (by_test S.rfc7179 (λ e. simp (e, nil_octet)) (λ e. rw e (sym (area_short [] (omega arith)))))

  pub none_stops : (egress : Bool) → area_stops S egress (area_of f h) ≡ false
  unfolding area_stops extension_stops draft_stops
  none_stops egress = rw (area_none f h none) (by_test S.rfc7179 (λ e. simp (e, nil_octet)) (λ e. simp (e, nil_octet)))

  pub none_alert : alert_of S f h ≡ NoAlert
  unfolding alert_of
  none_alert = rw (area_none f h none) (by_test S.rfc7179 (λ e. simp (e, nil_octet)) (λ e. rw e))

  module _ (nickname : ℕ) (named : nickname ≡ S.nickname) (egress : Bool) (e : egress ≡ we_are_egress nickname h) (r : Answer) (out out1 : List ℕ) where
    pub plain_egress : egress ≡ true → (local : Local) → Comes f h local → Done (local_at S clock f h local) r out out1 → Done (routed S clock f h) r out out1
    plain_egress t local x d =
        rw (routed_egress S clock f h none_read (none_stops (we_are_egress S.nickname h)) (cc), x.same S clock) d

    pub plain_transit : egress ≡ false → Done (transit_quiet S f h NoAlert) r out out1 → Done (routed S clock f h) r out out1
    unfolding transit transit_quiet alerted
    plain_transit t d =
        rw (routed_transit S clock f h none_read (none_stops (we_are_egress S.nickname h)) (cc))
        (by_hop (S.hop h.egress) (λ q. rw (transit, q) (rw (transit_quiet, q) at d)) (λ hop q. rw (transit, q, none_alert) (rw (transit_quiet, q) at d)))

-- and to us
pub arrives_plain : (rfc7179 : Bool) (f : List ℕ) (h : Header) (n : ℕ) → n ≡ op_length h.word → n ≡ 0 → (local : Local) → Comes f h local
    → Arrives rfc7179 f h local
arrives_plain rfc7179 f h n is z local x =
    record {
      same = λ S clock ours two.
          routed_egress S clock f h (none_read S clock f h (sym is ∙ z)) (none_stops S clock f h (sym is ∙ z) (we_are_egress S.nickname h)) ours
          ∙ x.same S clock;
      ends = x.ends;
    }

pub ruleset at_egress_laws = (rules, area_made, read_well, arrives_plain, arrives_faulty)

pub comes_ends : {f : List ℕ} {h : Header} {local : Local} → Comes f h local → Ends local
comes_ends x = x.ends

pub owns_named : {own : Own} {S : Ways} → Owns own S → own.nickname ≡ S.nickname
owns_named x = x.named

-- a frame in transit without what is replied to an alert, and with it: by the next hop
module _ (S : Ways) (clock f : List ℕ) (h : Header) (P : A.Handled → A.Handled → Type 0) where
  by_transit : (alert : Alert) → P (A.dropped 21) (A.dropped 21) → ((r : NextHop) → P (alert_quiet S r f h alert) (alerted S r clock f h alert))
      → P (transit_quiet S f h alert) (transit_at S clock f h alert)
  unfolding transit_quiet transit_at
  by_transit alert lost found =
      by_hop (S.hop h.egress) (λ q. rw (transit_quiet, transit_at, q) lost) (λ r q. rw (transit_quiet, transit_at, q) (found r))

  -- of an echo request by the length too
  by_request : ((n : ℕ) → (n ≡ 25 → ⊥) → (n ≡ 50 → ⊥) → P (A.dropped n) (A.dropped n))
      → ((r : NextHop) → P (A.wrote 50 (forwarded S r f h) r.neighbour)
      (A.wrote_both 50 (forwarded S r f h) r.neighbour (echoed S clock f h).octets (echoed S clock f h).via))
      → P (transit_quiet S f h AlertRequest) (transit_at S clock f h AlertRequest)
  unfolding onward alerted
  by_request lost goes =
      by_transit AlertRequest (lost 21 (omega arith) (omega arith))
      (λ r. by_test (ltb 2048 (length (forwarded S r f h))) (λ l. rw l (lost 29 (omega arith) (omega arith))) (λ l. rw l (goes r)))

-- an alert that asks for no reply
module _ (S : Ways) (clock f : List ℕ) (h : Header) where
  same_transit : (alert : Alert) → asks_back alert ≡ false → transit_quiet S f h alert ≡ transit_at S clock f h alert
  unfolding alerted
  same_transit NoAlert e = by_transit S clock f h (λ quiet over. quiet ≡ over) NoAlert refl (λ r. refl)
  same_transit (AlertFault code) e = absurd (true≢false e)
  same_transit AlertErr e = by_transit S clock f h (λ quiet over. quiet ≡ over) AlertErr refl (λ r. refl)
  same_transit AlertRequest e = absurd (true≢false e)

  pub replies_quiet : (alert : Alert) (a : Answer) (out beside : List ℕ) (asks : Bool) → asks ≡ asks_back alert → not asks ≡ true
      → Replies S clock f h alert a a out out beside beside
  replies_quiet alert a out beside asks is n =
      record { over = λ before d. both_of beside (rw (same_transit alert (sym is ∙ not-true asks n)) at d) }

  pub transit_replied : (alert : Alert) (a : Answer) (before out : List ℕ) → Done (transit_quiet S f h alert) a before out
      → (r : Answer) (out1 beside beside1 : List ℕ) → Replies S clock f h alert a r out out1 beside beside1
      → Both (transit_at S clock f h alert) r before out1 beside beside1
  transit_replied alert a before out quiet r out1 beside beside1 x = x.over before quiet

pub asks_so : (alert : Alert) (asks : Bool) → asks ≡ asks_back alert → not asks ≡ false → asks_back alert ≡ true
asks_so alert asks is n = sym is ∙ not-false asks n

pub ruleset carry_laws = (rules, sends_lookup, quiet_lookup, transit_replied)

-- by the same switch asked for another destination
pub messaged_same : (S T : Ways) → T ≡ S → (clock f : List ℕ) (h : Header) (r : Answer) (out out1 : List ℕ) → Done (messaged T clock f h) r out out1
    → Done (messaged S clock f h) r out out1
messaged_same S T e clock f h r out out1 d = rw e at d

-- the reply to an alert: an error in place of 25, or an echo reply beside 50
module _ (S : Ways) (clock f : List ℕ) (h : Header) where
  abbrev RepliedSo : Alert → Answer → Answer → List ℕ → List ℕ → List ℕ → List ℕ → Type 0
  RepliedSo alert a r out out1 beside beside1 =
      asks_back alert ≡ true → Answerable f h alert → (before : List ℕ) → Done (transit_quiet S f h alert) a before out
      → Both (transit_at S clock f h alert) r before out1 beside beside1

  module _ (a : Answer) (out beside : List ℕ) where
    fault_so : (alert : Alert) → a.number ≡ 25 → (r : Answer) (out1 : List ℕ) → Done (messaged S clock f h) r out out1
        → RepliedSo alert a r out out1 beside beside
    unfolding channelled alerted
    fault_so NoAlert e r out1 p asks x before = absurd (true≢false (sym asks))
    fault_so (AlertFault code) e r out1 p asks x before =
        by_transit S clock f h (λ quiet over. Done quiet a before out → Both over r before out1 beside beside) (AlertFault code)
        (λ d. absurd (omega (arith, e, numbered d)))
        (λ hop d. both_of beside (rw (x, d.after ∙ put_none before 0) at p))
    fault_so AlertErr e r out1 p asks x before = absurd (true≢false (sym asks))
    fault_so AlertRequest e r out1 p asks x before =
        by_request S clock f h (λ quiet over. Done quiet a before out → Both over r before out1 beside beside)
        (λ n other more d. absurd (other (sym (numbered d) ∙ e)))
        (λ hop d. absurd (omega (arith, e, numbered d)))

    none_so : (alert : Alert) → (a.number ≡ 25 → ⊥) → (a.number ≡ 50 → ⊥) → RepliedSo alert a a out out beside beside
    none_so NoAlert k n asks x before = absurd (true≢false (sym asks))
    none_so (AlertFault code) k n asks x before =
        by_transit S clock f h (λ quiet over. Done quiet a before out → Both over a before out beside beside) (AlertFault code)
        (both_of beside) (λ hop d. absurd (k (numbered d)))
    none_so AlertErr k n asks x before = absurd (true≢false (sym asks))
    none_so AlertRequest k n asks x before =
        by_request S clock f h (λ quiet over. Done quiet a before out → Both over a before out beside beside)
        (λ m other more. both_of beside) (λ hop d. absurd (n (numbered d)))

    beside_so : (alert : Alert) → a.number ≡ 50 → (b : Answer) (beside1 : List ℕ) → Done (messaged S clock f h) b beside beside1
        → RepliedSo alert a (beside_by a b) out out beside beside1
    unfolding channelled
    beside_so NoAlert e b beside1 p asks x before = absurd (true≢false (sym asks))
    beside_so (AlertFault code) e b beside1 p asks x before =
        by_transit S clock f h (λ quiet over. Done quiet a before out → Both over (beside_by a b) before out beside beside1) (AlertFault code)
        (λ d. absurd (omega (arith, e, numbered d))) (λ hop d. absurd (omega (arith, e, numbered d)))
    beside_so AlertErr e b beside1 p asks x before = absurd (true≢false (sym asks))
    beside_so AlertRequest e b beside1 p asks x before =
        by_request S clock f h (λ quiet over. Done quiet a before out → Both over (beside_by a b) before out beside beside1)
        (λ n other more d. absurd (more (sym (numbered d) ∙ e)))
        (λ hop d.
        let echo = rw x at p in
        record { answer = rw (d.answer, echo.answer); after = d.after; after_beside = echo.after })

    module _ (alert : Alert) (asks : asks_back alert ≡ true) (x : Answerable f h alert) where
      pub replies_fault : a.number ≡ 25 → (r : Answer) (out1 : List ℕ) → Done (messaged S clock f h) r out out1
          → Replies S clock f h alert a r out out1 beside beside
      replies_fault e r out1 p = record { over = fault_so alert e r out1 p asks x }

      module _ (k : a.number ≡ 25 → ⊥) where
        pub replies_none : (a.number ≡ 50 → ⊥) → Replies S clock f h alert a a out out beside beside
        replies_none n = record { over = none_so alert k n asks x }

        pub replies_beside : a.number ≡ 50 → (b : Answer) (beside1 : List ℕ) → Done (messaged S clock f h) b beside beside1 → (r : Answer) → r ≡ beside_by a b
            → Replies S clock f h alert a r out out beside beside1
        replies_beside e b beside1 p r is = rw is (record { over = beside_so alert e b beside1 p asks x })

pub ruleset reply_laws = (rules, messaged_same, asks_so, replies_quiet, room_576, replies_fault, replies_none, replies_beside)

-- a frame in transit with an area, by its task
module _ (S : Ways) (clock f : List ℕ) (h : Header) {rfc7179 strip : Bool} {kept : List ℕ} {task : Result Task AreaFault} (x : Routes rfc7179 strip f h kept task)
    (away : we_are_egress S.nickname h ≡ false) (two : rfc7179 ≡ S.rfc7179) (r : Answer) (out beside : List ℕ) where
  pub task_stopped : (e : AreaFault) → task ≡ Err e → r ≡ answer_of (A.dropped_at (A.number_of e.number) e.place)
      → Both (routed S clock f h) r out out beside beside
  task_stopped e z is = rw (x.same S clock away two, z) (both_of beside (done_unwritten (A.number_of e.number) e.place 0 refl is))

  pub task_forward : (t : Task) → task ≡ Ok t → (out1 beside1 : List ℕ)
      → Both (transit_at S clock f h t.alert) r out out1 beside beside1 → Both (routed S clock f h) r out out1 beside beside1
  task_forward t e out1 beside1 d = rw (x.same S clock away two, e) d

-- and one to us
pub task_arrived : (S : Ways) (clock f : List ℕ) (h : Header) {rfc7179 : Bool} {local : Local} → Arrives rfc7179 f h local → rfc7179 ≡ S.rfc7179
    → (nickname : ℕ) → nickname ≡ S.nickname → (egress : Bool) → egress ≡ we_are_egress nickname h → egress ≡ true
    → (r : Answer) (out out1 beside : List ℕ) → Done (local_at S clock f h local) r out out1 → Both (routed S clock f h) r out out1 beside beside
task_arrived S clock f h x two nickname named egress e t r out out1 beside d =
    both_of beside (rw (x.same S clock (rw (e, named) at t) two) d)

pub arrives_ends : {rfc7179 : Bool} {f : List ℕ} {h : Header} {local : Local} → Arrives rfc7179 f h local → Ends local
arrives_ends x = x.ends

module _ {rfc7179 strip : Bool} {f : List ℕ} {h : Header} {kept : List ℕ} {task : Result Task AreaFault} (x : Routes rfc7179 strip f h kept task) where
  pub left_stopped : (e : AreaFault) → task ≡ Err e → e.place ≤ 2048
  left_stopped y e = rw e at x.left

  module _ (t : Task) (e : task ≡ Ok t) where
    pub left_onward : Answerable f h t.alert
    left_onward = rw e at x.left

    put_aside : PutAside (sent_of (strip && not rfc7179) (area_of f h)) kept t.size
    put_aside = rw e at x.aside

    pub aside_within : t.size ≤ length kept
    aside_within = omega (arith, put_aside.few, put_aside.wide)

    pub aside_count : t.size ≡ length (take t.size kept)
    aside_count = sym (length-take-le t.size kept aside_within)

    pub aside_sent : (S : Ways) → strip ≡ S.strip → rfc7179 ≡ S.rfc7179 → Sends S f h (take t.size kept)
    unfolding area_sent
    aside_sent S s two =
        record { goes = rw (← s, ← two) put_aside.stands; few = omega (arith, length-take t.size kept, put_aside.few) }

pub ruleset route_laws = (rules, task_stopped, task_forward, left_stopped, left_onward, aside_within, aside_count, aside_sent)

pub away_so : (S : Ways) (h : Header) (own : Own) → Owns own S → (egress : Bool) → egress ≡ we_are_egress own.nickname h → egress ≡ false
    → we_are_egress S.nickname h ≡ false
away_so S h own x egress e f = rw (← x.named) (sym e ∙ f)

pub plain_done : (S : Ways) (clock f : List ℕ) (h : Header) (own : Own) → Owns own S → (egress : Bool) → egress ≡ we_are_egress own.nickname h → egress ≡ false
    → (n : ℕ) → n ≡ op_length h.word → n ≡ 0 → (t : Lookup) → ways_by t ≡ only_for h.egress S → (r : Answer) (out out1 beside : List ℕ)
    → Done (transit_quiet (ways_by t) f h NoAlert) r out out1 → Both (routed S clock f h) r out out1 beside beside
plain_done S clock f h own o egress e q n is z t said r out out1 beside d =
    both_of beside
    (plain_transit S clock f h (sym is ∙ z) own.nickname o.named egress e r out out1 q (quiet_lookup S f h t r out out1 said NoAlert d))

pub ruleset handle_at_laws = (rules, owns_named, task_arrived, arrives_ends, away_so, plain_done)

-- what is written at the start of a buffer, by way of its first octets
pub front_count : (out : List ℕ) → 576 ≤ length out → 576 ≡ length (take 576 out)
front_count out h = sym (length-take-le 576 out h)

pub front_room : (out : List ℕ) → 576 ≤ length out → 576 ≤ length (take 576 out)
front_room out h = omega (arith, front_count out h)

pub front_done : (a : A.Handled) (r : Answer) (out out1 : List ℕ) → Done a r (take 576 out) out1 → length out1 ≡ length (take 576 out)
    → Done a r out (out1 ++ drop 576 out)
front_done a r out out1 d same =
    let x = take 576 out in
    let long : length out1 ≡ length a.octets + (length x - length a.octets) =
    rw (d.after, put_front x a.octets) (length-append a.octets (drop (length a.octets) x) ∙ rw (length-drop (length a.octets) x)) in
    let rest : drop (length a.octets) (x ++ drop 576 out) ≡ drop (length a.octets) x ++ drop 576 out =
    drop-append-le (length a.octets) x (drop 576 out) (omega arith) in
    record {
      answer = d.answer;
      after =
          rw (d.after, put_front x a.octets, put_front out a.octets)
          (append_assoc a.octets (drop (length a.octets) x) (drop 576 out)
          ∙ ap (λ (y : List ℕ). a.octets ++ y) (sym rest ∙ rw (take-append-drop 576 out)));
      alone = d.alone;
    }

pub ruleset back_laws = (rules, back_message, front_count, front_room, front_done)
