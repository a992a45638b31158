-- One law for each outcome of a handling's stages, how long what is written is, and which numbers refuse a frame. By the tests in their
-- order.
use Rattle.std.specs.Prelude.{Some, None, Ok, Err}
use mathlib.Core.Path.{◌≡◌}
use mathlib.Core.List.{List}
use mathlib.Core.Bool.{true, false, ◌||◌}
use Prim.Native.Nat.{ℕ, ◌+◌, ◌<◌, ◌≤◌}
use native.Mathlib.Omega.{arith}
use borrow.Author.Tests.{ltb-false}
use lib.Dec.{ltb}
use lib.ListN.{length, length-append, length-take}
use Rattle.rules.specs
use specs.Settings.{Settings, Ways, ways_of, settings_of}
use specs.{Link.link, Options.WellFormed, Options.Faulty}
use specs.Header.{any_rbridge, read_frame, inner_start, area_of, inner_of, header_refusal, we_are_egress}
use specs.Extension.{area_read, area_stops, area_sent}
use specs.Answer.{number_of, dropped, dropped_at, wrote, wrote_both, delivered}
use specs.Channel.{ethertype_is_is, inner_ethertype, body_of, reply_mode, echo_read, channel_read, silenced, return_path, error_reply, echo_reply}
use specs.Handling.{forwarded_rest, forwarded, onward, alert_of, alerted, transit, faulted, echoed, channelled, untagged, to_all_egress_rbridges, decapsulated}
use specs.Handling.{routed, handling, frame_most, beside_least, handled_with, handled}
use specs.declared.{NextHop.NextHop, Header.Header, Number.Number, ChannelFault.ChannelFault}
use specs.declared.ChannelRead.TheVariants.{Fault, BadErr, ErrorHeard, EchoRequest}
use Rattle.rules.proofs
use proofs.TestLaws.{tests, apart, by_test, either, or_left, or_right, and_no}
use proofs.FrameLaws.{link_most, frame_found}
use proofs.ReplyLaws.{length_reply, echo_body_length}

module _ (S : Ways) (f : List ℕ) (h : Header) where
  module _ (clock : List ℕ) where
    pub transit_none : S.hop h.egress ≡ None → transit S clock f h ≡ dropped 21
    unfolding transit
    transit_none e = rw (transit, e)

    pub transit_over : (r : NextHop) → S.hop h.egress ≡ Some r → transit S clock f h ≡ alerted S r clock f h (alert_of S f h)
    unfolding transit
    transit_over r e = rw (transit, e)

  module _ (r : NextHop) (beside : List ℕ) (beside_via : ℕ) where
    pub onward_long : frame_most < length (forwarded S r f h) → onward S r f h beside beside_via ≡ dropped 29
    unfolding onward
    onward_long n = simp tests

    pub onward_sent : length (forwarded S r f h) ≤ frame_most
        → onward S r f h beside beside_via ≡ wrote_both 50 (forwarded S r f h) r.neighbour beside beside_via
    unfolding onward
    onward_sent n = simp tests

  module _ (code : ℕ) where
    pub faulted_silent : silenced code (inner_of f h) ≡ true → faulted S f h code ≡ dropped 25
    unfolding faulted
    faulted_silent e = rw (faulted, e)

    module _ (heard : silenced code (inner_of f h) ≡ false) where
      pub faulted_none : return_path S h.ingress ≡ None → faulted S f h code ≡ dropped 25
      unfolding faulted
      faulted_none e = rw (faulted, heard, e)

      pub faulted_over : (r : NextHop) → return_path S h.ingress ≡ Some r → faulted S f h code ≡ wrote 53 (error_reply S r f h code) r.neighbour
      unfolding faulted
      faulted_over r e = rw (faulted, heard, e)

  module _ (clock : List ℕ) where
    pub echoed_mode : (reply_mode (body_of (inner_of f h)) ≡ 2 → ⊥) → echoed S clock f h ≡ dropped 28
    unfolding echoed
    echoed_mode e = simp tests

    module _ (asked : reply_mode (body_of (inner_of f h)) ≡ 2) where
      pub echoed_none : return_path S h.ingress ≡ None → echoed S clock f h ≡ dropped 28
      unfolding echoed
      echoed_none e = simp (tests, echoed, e)

      pub echoed_over : (r : NextHop) → return_path S h.ingress ≡ Some r
          → echoed S clock f h ≡ wrote 54 (echo_reply S r h clock (body_of (inner_of f h))) r.neighbour
      unfolding echoed
      echoed_over r e = simp (tests, echoed, e)

-- how long what is written is
module _ (S : Ways) (r : NextHop) (f : List ℕ) (h : Header) where
  pub length_forwarded : length (forwarded S r f h) ≡ length (link S r) + 6 + length (area_sent S (area_of f h)) + length (inner_of f h)
  unfolding forwarded forwarded_rest
  length_forwarded =
      let n = length-append (area_sent S (area_of f h)) (inner_of f h) in
      rw (length-append (link S r)) (omega arith)

  -- T-01: "The longest replies become 174 and 576."
  pub length_error : (code : ℕ) → length (error_reply S r f h code) ≤ 174
  unfolding error_reply
  length_error code = rw (length_reply, length-take) (omega (arith, link_most S r))

  pub length_echo : (clock body : List ℕ) → length clock ≡ 6 → 18 ≤ length body → length (echo_reply S r h clock body) ≡ length (link S r) + 28 + length body
  unfolding echo_reply
  length_echo clock body c b = rw (length_reply, echo_body_length body clock b c)

-- only an echo request of 18 to 530 octets is found to be one
pub echo_ranged : (body : List ℕ) → echo_read body ≡ EchoRequest → (18 ≤ length body) × (length body ≤ 530)
unfolding echo_read
echo_ranged body e =
    by_test (ltb (length body) 18 || ltb 530 (length body)) (λ t. apart (cc (rw t at e))) (λ t. search (ltb-false, or_left, or_right))

pub channel_echo : (inner : List ℕ) → channel_read inner ≡ EchoRequest → echo_read (body_of inner) ≡ EchoRequest
unfolding channel_read
channel_echo inner = search (either (λ c. c ≡ EchoRequest → echo_read (body_of inner) ≡ EchoRequest), fault, bad, heard) depth 12
  where
    fault : (code : ChannelFault) → Fault code ≡ EchoRequest → echo_read (body_of inner) ≡ EchoRequest
    fault code e = apart cc

    bad : BadErr ≡ EchoRequest → echo_read (body_of inner) ≡ EchoRequest
    bad e = apart cc

    heard : ErrorHeard ≡ EchoRequest → echo_read (body_of inner) ≡ EchoRequest
    heard e = apart cc

-- the stages of an egress, by outcome
module _ (S : Ways) (clock f : List ℕ) (h : Header) where
  pub inner_short : length (inner_of f h) < 18 → decapsulated S clock f h ≡ dropped 22
  unfolding decapsulated
  inner_short a = simp tests

  module _ (a : 18 ≤ length (inner_of f h)) where
    pub inner_untagged : untagged (inner_of f h) ≡ true → decapsulated S clock f h ≡ dropped 23
    unfolding decapsulated
    inner_untagged b = simp (tests, b)

    module _ (b : untagged (inner_of f h) ≡ false) where
      pub inner_any : h.egress ≡ any_rbridge → to_all_egress_rbridges (inner_of f h) ≡ false → decapsulated S clock f h ≡ dropped 24
      unfolding decapsulated
      inner_any c d = simp (tests, b, d)

      pub inner_delivered : (h.egress ≡ any_rbridge → ⊥) → to_all_egress_rbridges (inner_of f h) ≡ false
          → decapsulated S clock f h ≡ delivered 51 (inner_start h) (length (inner_of f h))
      unfolding decapsulated
      inner_delivered c d = simp (tests, b, d)

      module _ (d : to_all_egress_rbridges (inner_of f h) ≡ true) where
        pub inner_up : inner_ethertype (inner_of f h) ≡ ethertype_is_is → decapsulated S clock f h ≡ delivered 52 (inner_start h) (length (inner_of f h))
        unfolding decapsulated
        inner_up g = simp (tests, b, d, and_no)

        pub inner_channel : (inner_ethertype (inner_of f h) ≡ ethertype_is_is → ⊥) → decapsulated S clock f h ≡ channelled S clock f h (channel_read (inner_of f h))
        unfolding decapsulated
        inner_channel g = simp (tests, b, d, and_no)

  pub routed_faulty : (number : Number) (place : ℕ) → area_read S (area_of f h) ≡ Faulty number place → routed S clock f h ≡ dropped_at (number_of number) place
  unfolding routed
  routed_faulty number place a = rw (routed, a)

  module _ (a : area_read S (area_of f h) ≡ WellFormed) where
    pub routed_stopped : area_stops S (we_are_egress S.nickname h) (area_of f h) ≡ true → routed S clock f h ≡ dropped 20
    unfolding routed
    routed_stopped b = rw (routed, a, b)

    module _ (b : area_stops S (we_are_egress S.nickname h) (area_of f h) ≡ false) where
      pub routed_egress : we_are_egress S.nickname h ≡ true → routed S clock f h ≡ decapsulated S clock f h
      unfolding routed
      routed_egress c = rw (routed, a, b, c)

      pub routed_transit : we_are_egress S.nickname h ≡ false → routed S clock f h ≡ transit S clock f h
      unfolding routed
      routed_transit c = rw (routed, a, b, c)

  pub handling_refused : read_frame f ≡ Ok h → (header_refusal S.mac f h ≡ 0 → ⊥) → handling S clock f ≡ dropped (header_refusal S.mac f h)
  unfolding handling
  handling_refused e a = simp (tests, handling, e)

  pub handling_routed : read_frame f ≡ Ok h → header_refusal S.mac f h ≡ 0 → handling S clock f ≡ routed S clock f h
  unfolding handling
  handling_routed e a = simp (tests, handling, e)

pub handling_unread : (S : Ways) (clock f : List ℕ) (n : Number) → read_frame f ≡ Err n → handling S clock f ≡ dropped (number_of n)
unfolding handling
handling_unread S clock f n e = rw (handling, e)

-- the refusals before a frame is looked at
module _ (S : Ways) (clock : List ℕ) (room beside_room : ℕ) (f : List ℕ) where
  pub clock_bad : (length clock ≡ 6 → ⊥) → handled_with S clock room beside_room f ≡ dropped 1
  unfolding handled_with
  clock_bad a = simp tests

  module _ (a : length clock ≡ 6) where
    pub room_short : room < frame_most → handled_with S clock room beside_room f ≡ dropped 2
    unfolding handled_with
    room_short b = simp tests

    module _ (b : frame_most ≤ room) where
      pub beside_short : beside_room < beside_least → handled_with S clock room beside_room f ≡ dropped 37
      unfolding handled_with
      beside_short c = simp tests

      module _ (c : beside_least ≤ beside_room) where
        pub frame_long : frame_most < length f → handled_with S clock room beside_room f ≡ dropped 3
        unfolding handled_with
        frame_long d = simp tests

        pub frame_handled : length f ≤ frame_most → handled_with S clock room beside_room f ≡ handling S clock f
        unfolding handled_with
        frame_handled d = simp tests

module _ (settings clock : List ℕ) (room beside_room : ℕ) (f : List ℕ) where
  pub settings_bad_lem : settings_of settings ≡ None → handled settings clock room beside_room f ≡ dropped 1
  unfolding handled
  settings_bad_lem e = rw (handled, e)

  pub settings_good : (S : Settings) → settings_of settings ≡ Some S → handled settings clock room beside_room f ≡ handled_with (ways_of S) clock room beside_room f
  unfolding handled
  settings_good S e = rw (handled, e)

pub unread_number : (f : List ℕ) (n : Number) → read_frame f ≡ Err n → (10 ≤ number_of n) × (number_of n ≤ 11)
unread_number f n e = rw e at (frame_found f)
