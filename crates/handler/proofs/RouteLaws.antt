-- What a frame comes to as the code finds it: received, its area read by the edition, its task, and the task carried out. By one law for each need.
use Rattle.std.specs.Prelude.{None, Result, Ok, Err}
use Rattle.handler.proofs
use proofs.Stages.{nicknames_read}
use proofs.StageLaws.{frame_near, by_hop, ready, inner_held, area_held, area_few, area_words}
use Rattle.rules.specs as rules
use rules.Handling.{transit, untagged, to_all_egress_rbridges, channel_message, alert_to, alert_of, decapsulated, routed, handled_with}
use mir.Syntax.{w8}
use mir.Val as Val
use mathlib.Core.Path.{◌≡◌, refl, sym, ap, ◌∙◌}
use mathlib.Core.List.{List}
use mathlib.Core.Bool.{Bool, true, false, not, ◌&&◌, ◌||◌, cond}
use Prim.Native.Nat.{ℕ, suc, ◌/◌, ◌≤◌, ◌<◌}
use native.Mathlib.Omega.{arith}
use native.Mathlib.Nat.{zero-add}
use borrow.Author.Rules.{rules}
use borrow.Author.Tests.{lt-leb, le-leb, not-true, not-false}
use Rattle.rules.proofs as rule_laws
use rule_laws.{TestLaws.by_test, TestLaws.apart, TestLaws.and_yes, TestLaws.and_no, OctetLaws.take_put, OptionLaws.area_number, FrameLaws.header_passed}
use lib.Dec.{eqb}
use lib.ListN.{length, length-drop, get_or}
use rules.{Octets.be16, Octets.be32, Settings.Ways, Options.WellFormed, Options.draft_read, Channel.channel_read}
use rules.Header.{inner_start, area_of, inner_of, read_frame, header_refusal, we_are_egress}
use rules.Extension.{flags_word, critical_alert, non_critical_alert, flag_unsummarized, summary_bare, extension_read, extension_stops, area_read, area_stops}
use rules.declared.{Header.Header, ChannelRead.ChannelRead, Alert.Alert}
use rules.declared.ChannelRead.TheVariants.{Fault, BadErr, ErrorHeard, BadEcho, EchoHeard, EchoRequest}
use rules.declared.Alert.TheVariants.{NoAlert}
use rule_laws.HandlingLaws.{inner_short, inner_untagged, inner_any, inner_delivered, inner_up, inner_channel, routed_faulty}
use rule_laws.HandlingLaws.{routed_stopped, routed_egress, routed_transit, handling_unread, handling_refused, handling_routed, clock_bad, room_short}
use rule_laws.HandlingLaws.{beside_short, frame_long, frame_handled}
use Rattle.octets.specs.Copy.{Wrote}
use Rattle.handler.specs
use rules.declared.Number.{Number}
use rules.declared.Number.TheVariants as N
use rules.declared.Number.TheVariants.{BadFlags, InnerShort, BadTag, NotToAllEgress, CriticalOption}
use Rattle.rules.specs.Answer.{number_by}
use Rattle.rules.proofs.NumberLaws.{number_some}
use Rattle.rules.proofs.TriedLaws.{tried}
use specs.Shapes.{area_read_of, sent_of, AreaWords, AreaKept, AllKept, Ready}
use specs.declared.way.Own.{Own}
use specs.declared.frame.Frame.{Frame}
use specs.declared.options.{Cursor.Cursor, AreaFault.AreaFault}
use specs.declared.handling.{Local.Local, Task.Task}
use specs.declared.handling.Local.TheVariants.{Dropped, Answered, Message}
use specs.Tasks.{area_read_by, PutAside, ReadBy, stops_by, alert_by, transit_at, wanted_by, asked_by, Answerable, Comes, Sized, Aside, RoutesRead, Routes}
use specs.Tasks.{Arrives, Receives, Lent, Receiving}
use Rattle.rules.specs.Options as O
use Rattle.rules.specs.Answer as A

-- the area by the edition, and as it is sent put aside
aside_put : (sent kept kept' : List ℕ) (to : ℕ) → Wrote sent 0 to kept kept' → to ≤ 124 → length kept' ≡ 124 → PutAside sent kept' to
aside_put sent kept kept' to w few wide =
    let size : to ≡ length sent = w.ends ∙ zero-add (length sent) in
    record { wide = wide; few = few; stands = sym (rw (size, w.after) (take_put kept sent)) }

module _ (rfc7179 strip : Bool) (area kept : List ℕ) where
  pub read_draft : not rfc7179 ≡ true → (kept' : List ℕ) (r : Result Cursor AreaFault) → AreaKept strip area kept kept' r → ReadBy rfc7179 strip area kept' r
  read_draft e kept' r x =
      rw (not-true rfc7179 e)
      (record {
        read = x.read;
        aside = λ c is. rw (and_yes strip) (aside_put (sent_of strip area) kept kept' c.to (x.wrote c is) (x.few c is) (x.wide c is));
      })

  module _ (two : not rfc7179 ≡ false) (w : ℕ) (word : w ≡ be32 area 0) (b : Bool)
      (is : b ≡ (flag_unsummarized w || (eqb (length area) 4 && summary_bare w))) where
    pub read_refused : b ≡ true → ReadBy rfc7179 strip area kept (Err (record { number = BadFlags; place = 0 }))
    unfolding extension_read
    read_refused t = record { read = cc (not-false rfc7179 two); aside = λ c e. apart (cc e) }

    pub read_extension : b ≡ false → (kept' : List ℕ) (r : Result Cursor AreaFault) → AllKept area kept kept' r → AreaWords area → ReadBy rfc7179 strip area kept' r
    unfolding extension_read
    read_extension t kept' r x words =
        let passed : extension_read area ≡ WellFormed = cc in
        rw (not-false rfc7179 two)
        (record {
          read = x.read ∙ sym passed;
          aside = λ c e.
              rw (and_no strip) (aside_put area kept kept' c.to (x.wrote c e) (omega (arith, (x.wrote c e).ends, words.few)) x.wide);
        })

pub ruleset read_area_laws = (rules, read_draft, read_refused, read_extension)

module _ (rfc7179 : Bool) (area : List ℕ) where
  pub check_draft : not rfc7179 ≡ true → (r : Result Cursor AreaFault) → area_read_of r ≡ draft_read area → area_read_of r ≡ area_read_by rfc7179 area
  check_draft e r is = rw (not-true rfc7179 e) is

  module _ (two : not rfc7179 ≡ false) (w : ℕ) (word : w ≡ be32 area 0) (b : Bool)
      (is : b ≡ (flag_unsummarized w || (eqb (length area) 4 && summary_bare w))) where
    pub check_refused : b ≡ true → O.Faulty BadFlags 0 ≡ area_read_by rfc7179 area
    unfolding extension_read
    check_refused t = cc (not-false rfc7179 two)

    pub check_extension : b ≡ false → WellFormed ≡ area_read_by rfc7179 area
    unfolding extension_read
    check_extension t = cc (not-false rfc7179 two)

pub ruleset check_area_laws = (rules, check_draft, check_refused, check_extension)

-- an alert
module _ (inner : List ℕ) where
  pub message_short : length inner < 18 → false ≡ channel_message inner
  unfolding channel_message
  message_short a = rw (lt-leb 18 (length inner) a)

  module _ (a : 18 ≤ length inner) (tag : Bool) (t : tag ≡ untagged inner) where
    pub message_untagged : tag ≡ true → false ≡ channel_message inner
    unfolding channel_message
    message_untagged e = cc (le-leb 18 (length inner) a)

    module _ (e : tag ≡ false) (all : Bool) (m : all ≡ to_all_egress_rbridges inner) where
      pub message_other : not all ≡ true → false ≡ channel_message inner
      unfolding channel_message
      message_other n = cc (le-leb 18 (length inner) a, not-true all n)

      pub message_so : not all ≡ false → (w : ℕ) → w ≡ be16 inner 16 → eqb w 0x8946 ≡ channel_message inner
      unfolding channel_message
      message_so n w x = cc (le-leb 18 (length inner) a, not-false all n)

pub ruleset channel_message_laws = (rules, message_short, message_untagged, message_other, message_so)

module _ (critical answered : Bool) (read c : ChannelRead) (e : read ≡ c) (a : Alert) where
  pub to_read : a ≡ alert_to critical answered c → a ≡ alert_to critical answered read
  to_read is = rw e is

  pub to_critical : (b : Bool) → critical ≡ b → a ≡ alert_to b answered c → a ≡ alert_to critical answered read
  to_critical b t is = rw (e, t) is

  pub to_answered : (b : Bool) → answered ≡ b → a ≡ alert_to critical b c → a ≡ alert_to critical answered read
  to_answered b t is = rw (e, t) is

pub ruleset alert_to_laws = (rules, to_read, to_critical, to_answered)

module _ (rfc7179 : Bool) (area inner : List ℕ) where
  pub alert_draft : not rfc7179 ≡ true → NoAlert ≡ alert_by rfc7179 area inner
  unfolding alert_by
  alert_draft e = rw (not-true rfc7179 e)

  module _ (two : not rfc7179 ≡ false) (w : ℕ) (word : w ≡ be32 area 0) (some : Bool) (s : some ≡ (critical_alert w || non_critical_alert w)) where
    pub alert_none : not some ≡ true → NoAlert ≡ alert_by rfc7179 area inner
    unfolding alert_by
    alert_none e = cc (not-false rfc7179 two, not-true some e)

    module _ (e : not some ≡ false) (message : Bool) (m : message ≡ channel_message inner) where
      pub alert_other : not message ≡ true → NoAlert ≡ alert_by rfc7179 area inner
      unfolding alert_by
      alert_other n = cc (not-false rfc7179 two, not-false some e, not-true message n)

      pub alert_so : not message ≡ false → (read : ChannelRead) → read ≡ channel_read inner → (critical : Bool) → critical ≡ critical_alert w → (stops : Bool)
          → stops ≡ extension_stops true w
          → (r : Alert) → r ≡ alert_to critical (not stops) read → r ≡ alert_by rfc7179 area inner
      unfolding alert_by
      alert_so n read c critical k stops h r is = cc (not-false rfc7179 two, not-false some e, not-false message n)

pub ruleset alert_of_laws = (rules, alert_draft, alert_none, alert_other, alert_so)

-- 22 to 24, 51 and 52
module _ (f : List ℕ) (h : Header) (inner : List ℕ) (held : inner ≡ inner_of f h) where
  pub egress_short : length inner < 18 → Comes f h (Dropped InnerShort)
  egress_short a = record { same = λ S clock. inner_short S clock f h (rw held at a); ends = Prim.tt }

  -- delivered in whole
  up : (n : Number) (start size : ℕ) → Ready f h → start ≡ inner_start h → size ≡ length inner
      → ((S : Ways) (clock : List ℕ) → decapsulated S clock f h ≡ A.delivered (A.number_of n) (inner_start h) (length (inner_of f h))) → Comes f h (Answered n start size)
  up n start size is i z e =
      rw (z, held, i) (record { same = e; ends = (omega (arith, is.area_whole, is.short), omega (arith, length-drop (inner_start h) f, is.short)) })

  module _ (a : 18 ≤ length inner) (tag : Bool) (t : tag ≡ untagged inner) where
    pub egress_untagged : tag ≡ true → Comes f h (Dropped BadTag)
    egress_untagged b = record { same = λ S clock. inner_untagged S clock f h (rw held at a) (cc); ends = Prim.tt }

    module _ (b : tag ≡ false) (all : Bool) (m : all ≡ to_all_egress_rbridges inner) where
      pub egress_any : not all ≡ true → h.egress ≡ 0xFFC0 → Comes f h (Dropped NotToAllEgress)
      egress_any n e = record { same = λ S clock. inner_any S clock f h (rw held at a) (cc) e (cc (not-true all n)); ends = Prim.tt }

      pub egress_delivered : not all ≡ true → (h.egress ≡ 0xFFC0 → ⊥) → Ready f h → (start size : ℕ) → start ≡ inner_start h → size ≡ length inner
          → Comes f h (Answered N.Delivered start size)
      egress_delivered n e is start size i z = up N.Delivered start size is i z (λ S clock. inner_delivered S clock f h (rw held at a) (cc) e (cc (not-true all n)))

      module _ (n : not all ≡ false) (word : ℕ) (w : word ≡ be16 inner 16) where
        pub egress_up : word ≡ 0x22F4 → Ready f h → (start size : ℕ) → start ≡ inner_start h → size ≡ length inner → Comes f h (Answered N.HandedUp start size)
        egress_up e is start size i z = up N.HandedUp start size is i z (λ S clock. inner_up S clock f h (rw held at a) (cc) (cc (not-false all n)) (cc))

        pub egress_channel : (word ≡ 0x22F4 → ⊥) → Comes f h Message
        egress_channel e =
            record { same = λ S clock. inner_channel S clock f h (rw held at a) (cc) (cc (not-false all n)) (λ x. e (cc)); ends = Prim.tt }

pub ruleset decapsulated_laws = (rules, egress_short, egress_untagged, egress_any, egress_delivered, egress_up, egress_channel)

-- 30 to 35 or 38, and 20
area_near : (rfc7179 : Bool) (area : List ℕ) (n : Number) (p : ℕ) → area_read_by rfc7179 area ≡ O.Faulty n p → p ≤ length area
unfolding extension_read
area_near false area n p e = (area_number area n p e).near
area_near true area n p e = extended (flag_unsummarized (flags_word area) || (eqb (length area) 4 && summary_bare (flags_word area))) e
  where
    extended : (b : Bool) → cond b (O.Faulty BadFlags 0) WellFormed ≡ O.Faulty n p → p ≤ length area
    extended true x = let z : 0 ≡ p = cc x in omega (arith, z)
    extended false x = let z : 0 ≡ suc (length area) = cc x in omega arith

pub read_well : (rfc7179 : Bool) (area : List ℕ) (read : Result Cursor AreaFault) → area_read_of read ≡ area_read_by rfc7179 area → (c : Cursor) → read ≡ Ok c
    → area_read_by rfc7179 area ≡ WellFormed
read_well rfc7179 area read is c e = sym is ∙ ap area_read_of e

pub area_made : {f : List ℕ} {h : Header} → Ready f h → (area : List ℕ) → area ≡ area_of f h → AreaWords area
area_made is area held = rw held (record { few = area_few is; whole = omega (arith, area_words is) })

-- a fault, whatever our role
module _ (rfc7179 : Bool) (f : List ℕ) (h : Header) (area : List ℕ) (held : area ≡ area_of f h) (read : Result Cursor AreaFault)
    (a : area_read_of read ≡ area_read_by rfc7179 area) (x : AreaFault) (e : read ≡ Err x) where
  faulty : area_read_by rfc7179 area ≡ O.Faulty x.number x.place
  faulty = sym a ∙ ap area_read_of e

  faulty_same : (S : Ways) (clock : List ℕ) → rfc7179 ≡ S.rfc7179 → routed S clock f h ≡ A.dropped_at (A.number_of x.number) x.place
  unfolding area_read
  faulty_same S clock two = routed_faulty S clock f h x.number x.place (cc faulty)

  faulty_near : Ready f h → x.place ≤ 2048
  faulty_near is = omega (arith, area_near rfc7179 area x.number x.place faulty, (area_made is area held).few)

  pub route_faulty : Ready f h → (strip : Bool) (kept : List ℕ) (q : Result Task AreaFault) → q ≡ Err x → Routes rfc7179 strip f h kept q
  route_faulty is strip kept q z = rw z (record { same = λ S clock away. faulty_same S clock; left = faulty_near is; aside = Prim.tt })

  pub arrives_faulty : Ready f h → Arrives rfc7179 f h (Answered x.number x.place 0)
  arrives_faulty is = record { same = λ S clock ours. faulty_same S clock; ends = (faulty_near is, omega arith) }

module _ (rfc7179 strip : Bool) (f : List ℕ) (h : Header) (area kept : List ℕ) (held : area ≡ area_of f h) (read : Result Cursor AreaFault)
    (a : ReadBy rfc7179 strip area kept read) where
  pub route_on : (c : Cursor) → read ≡ Ok c → (t : Result Task AreaFault) → RoutesRead rfc7179 c.to f h t → Routes rfc7179 strip f h kept t
  route_on c e t x = record { same = x.same; left = x.left; aside = put_aside t x.sized }
    where
      put_aside : (t : Result Task AreaFault) → Sized c.to t → Aside rfc7179 strip f h kept t
      put_aside (Err x) k = Prim.tt
      put_aside (Ok t) k = rw (k, ← held) (a.aside c e)

pub ruleset route_laws = (rules, tried, area_made, route_faulty, read_well, route_on)

-- once the area is read
module _ (rfc7179 : Bool) (f : List ℕ) (h : Header) (area : List ℕ) (held : area ≡ area_of f h) (well : area_read_by rfc7179 area ≡ WellFormed)
    (stops : Bool) where
  module _ (size : ℕ) (b : stops ≡ stops_by rfc7179 false area) where
    pub route_stopped : stops ≡ true → RoutesRead rfc7179 size f h (Err (record { number = CriticalOption; place = 0 }))
    unfolding area_read area_stops
    route_stopped x = record { same = λ S clock away two. routed_stopped S clock f h (cc) (cc); left = omega arith; sized = Prim.tt }

    -- the alert as the rules find it
    alert_same : (S : Ways) → rfc7179 ≡ S.rfc7179 → (inner : List ℕ) → inner ≡ inner_of f h → alert_of S f h ≡ alert_by rfc7179 area inner
    unfolding alert_of area_stops alert_by
    alert_same S two inner within = rw (held, within, two)

    answers_request : (inner : List ℕ) → inner ≡ inner_of f h → Answerable f h (alert_by rfc7179 area inner)
    unfolding alert_by alert_to
    answers_request inner within =
        by_test (rfc7179 && (critical_alert (flags_word area) || non_critical_alert (flags_word area)) && channel_message inner)
        (λ t. rw t (to (critical_alert (flags_word area)) (not (stops_by rfc7179 true area)) (channel_read inner) refl)) (λ t. rw t Prim.tt)
      where
        to : (critical answered : Bool) (c : ChannelRead) → channel_read inner ≡ c → Answerable f h (alert_to critical answered c)
        to critical answered (Fault code) q = elim critical as (λ k. Answerable f h (alert_to k answered (Fault code))) [ true ↦ rw within at q | false ↦ Prim.tt ]
        to critical answered BadErr q = elim critical as (λ k. Answerable f h (alert_to k answered BadErr)) [ true ↦ Prim.tt | false ↦ Prim.tt ]
        to critical answered ErrorHeard q = Prim.tt
        to critical answered BadEcho q = Prim.tt
        to critical answered EchoHeard q = Prim.tt
        to critical answered EchoRequest q = elim answered as (λ k. Answerable f h (alert_to critical k EchoRequest)) [ true ↦ rw within at q | false ↦ Prim.tt ]

    pub route_transit : stops ≡ false → (inner : List ℕ) → inner ≡ inner_of f h → (alert : Alert) → alert ≡ alert_by rfc7179 area inner
        → RoutesRead rfc7179 size f h (Ok (record { alert = alert; size = size }))
    unfolding area_read area_stops transit_at transit
    route_transit x inner within alert is =
        record {
          same = λ S clock away two.
              routed_transit S clock f h (cc) (cc) away
              ∙ by_hop (S.hop h.egress) (λ q. rw (transit, transit_at, q))
              (λ r q. rw (transit, transit_at, q, alert_same S two inner within ∙ sym is));
          left = rw is (answers_request inner within);
          sized = refl;
        }

  -- a frame to us
  module _ (b : stops ≡ stops_by rfc7179 true area) where
    pub arrives_stopped : stops ≡ true → Arrives rfc7179 f h (Dropped CriticalOption)
    unfolding area_read area_stops
    arrives_stopped x = record { same = λ S clock ours two. routed_stopped S clock f h (cc) (cc); ends = Prim.tt }

    pub arrives_read : stops ≡ false → (local : Local) → Comes f h local → Arrives rfc7179 f h local
    unfolding area_read area_stops
    arrives_read x local d =
        record { same = λ S clock ours two. routed_egress S clock f h (cc) (cc) ours ∙ d.same S clock; ends = d.ends }

pub ruleset route_read_laws = (rules, route_stopped, route_transit)

pub ruleset arrived_laws = (rules, arrives_stopped, arrives_read)

-- 12 to 18
module _ (clock f : List ℕ) (h : Header) (is : read_frame f ≡ Ok h) (own : Own) where
  module _ {B : Type 0} (checked : Result B Number) (its : number_by checked ≡ header_refusal (own.word / 65536) f h) where
    pub frame_refused : (n : Number) → checked ≡ Err n → (q : Result Frame Number) → q ≡ Err n → Receives own clock f q
    frame_refused n e q y =
        let given : header_refusal (own.word / 65536) f h ≡ A.number_of n = sym its ∙ ap number_by e in
        let some : header_refusal (own.word / 65536) f h ≡ 0 → ⊥ = λ z. number_some n (sym given ∙ z) in
        rw y (record { same = λ S o. handling_refused S clock f h is (rw o.addressed at some) ∙ rw (rw o.addressed at given) })

  module _ (given : 0 ≡ header_refusal (own.word / 65536) f h) where
    pub frame_ready : length f ≤ 2048 → ((i : ℕ) → Val.Fits w8 (get_or f i 0)) → Ready f h
    frame_ready short small =
        let S : Ways = record { nickname = own.nickname; mac = own.word / 65536; strip = false; rfc7179 = false; hop = λ d. None } in
        let p = header_passed S f h (sym given) in
        record { read = is; hops_left = p.hops_left; area_whole = p.area_whole; short = short; nicknames = nicknames_read f h is small }

    pub frame_passed : (frame : Frame) → frame.octets.now ≡ f → frame.header ≡ h → frame.time.now ≡ clock
        → Receives own clock f (Ok frame)
    frame_passed frame e k t = record { same = λ S o. handling_routed S clock f h is (rw o.addressed at (sym given)) ∙ rw (e, k, t) }

-- 10 and 11
module _ (clock f : List ℕ) (read : Result Header Number) (is : read ≡ read_frame f) (own : Own) where
  pub frame_unread : (n : Number) → read ≡ Err n → (q : Result Frame Number) → q ≡ Err n → Receives own clock f q
  frame_unread n e q y = rw y (record { same = λ S o. handling_unread S clock f n (sym is ∙ e) })

  pub frame_trill : (h : Header) → read ≡ Ok h → read_frame f ≡ Ok h
  frame_trill h e = sym is ∙ e

pub ruleset read_laws = (rules, tried, frame_near, frame_unread, frame_trill, frame_refused, frame_ready, frame_passed)

-- 1, 2, 37 and 3
module _ (own : Own) (clock f : List ℕ) (room beside_room : ℕ) where
  pub received_dropped : (n : Number) → ((S : Ways) → handled_with S clock room beside_room f ≡ A.dropped (A.number_of n)) → Receiving own clock f room beside_room (Err n)
  received_dropped n w = record { same = λ S o. w S; lent = Prim.tt }

  pub received_read : (r : Result Frame Number) (time : List ℕ) → Receives own time f r → time ≡ clock → length clock ≡ 6 → 2048 ≤ room → 576 ≤ beside_room → length f ≤ 2048
      → Receiving own clock f room beside_room r
  received_read r time d t a b c short = record { same = λ S o. frame_handled S clock room beside_room f a b c short ∙ (rw t at d.same S o); lent = lends r }
    where
      lends : (r : Result Frame Number) → Lent room beside_room r
      lends (Err n) = Prim.tt
      lends (Ok frame) = (b, c)

pub ruleset receive_laws = (rules, received_dropped, clock_bad, room_short, beside_short, frame_long, received_read)

-- what a frame that was received has with it
module _ {own : Own} {clock f : List ℕ} {room beside_room : ℕ} {received : Result Frame Number} (x : Receiving own clock f room beside_room received) {frame : Frame}
    (e : received ≡ Ok frame) where
  pub lent_room : 2048 ≤ room
  lent_room = (rw e at x.lent).0

  pub lent_beside : 576 ≤ beside_room
  lent_beside = (rw e at x.lent).1

pub ruleset received_lent = (lent_room, lent_beside)

-- the destination
module _ (nickname : ℕ) (h : Header) (egress : Bool) (e : egress ≡ we_are_egress nickname h) where
  pub wanted_back : egress ≡ true → h.ingress ≡ wanted_by nickname h
  wanted_back t = rw (← e, t)

  pub wanted_on : egress ≡ false → h.egress ≡ wanted_by nickname h
  wanted_on t = rw (← e, t)

pub asked_so : (nickname : ℕ) (received : Result Frame Number) (frame : Frame) → received ≡ Ok frame → (d : ℕ) → d ≡ wanted_by nickname frame.header
    → d ≡ asked_by nickname received
asked_so nickname received frame e d is = rw e is

pub ruleset wanted_laws = (rules, wanted_back, wanted_on)

pub ruleset asked_laws = (rules, asked_so)
