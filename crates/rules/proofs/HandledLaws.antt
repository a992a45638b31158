-- How a handling came out, for any frame: 50 with what was forwarded, 53 or 54 with the reply, or another number and nothing written; so every
-- answer's number is under 64 and it writes at most 2,048 octets. By the tests in their order, and by lengths.
use Rattle.std.specs.Prelude.{Option, Some, None, Ok, Err}
use mathlib.Core.Path.{◌≡◌, refl}
use mathlib.Core.List.{List, []}
use mathlib.Core.Bool.{Bool, true, false, not, ◌&&◌, ◌||◌, true≢false}
use Prim.Native.Nat.{ℕ, suc, ◌<◌, ◌≤◌}
use native.Mathlib.Omega.{arith}
use borrow.Author.Tests.{leb-true, le-ltb, ltb-true, ltb-false, eqb-true, not-false}
use lib.Dec.{ltb, eqb}
use lib.ListN.{length}
use Rattle.rules.specs
use specs.{Settings.Ways, Settings.settings_of, Extension.extension_read, Extension.area_read, Campus.writes_reply}
use specs.Header.{read_frame, area_of, inner_of, header_refusal, we_are_egress}
use specs.Options.{AreaRead, WellFormed, Faulty, draft_read}
use specs.Answer.{err_of, number_of, Handled, dropped, delivered, wrote, wrote_both, given}
use specs.Channel.{body_of, reply_mode, echo_read, channel_read, silenced, return_path, error_reply, echo_reply}
use specs.Handling.{forwarded, onward, alert_to, alert_of, alerted, transit, faulted, echoed, channelled, decapsulated, routed, handling, frame_most}
use specs.Handling.{beside_least, handled_with, handled}
use specs.declared.{NextHop.NextHop, Header.Header, ChannelRead.ChannelRead, ChannelFault.ChannelFault}
use specs.declared.ChannelFault.TheVariants.{HeaderShort, OtherEthertype, OtherVersion, WrongNative, OtherProtocol}
use specs.declared.ChannelRead.TheVariants.{Fault, BadErr, ErrorHeard, BadEcho, EchoHeard, EchoRequest}
use Rattle.rules.proofs
use proofs.TestLaws.{by_test, either, by_option, and_left, and_right, every_below, each_below}
use proofs.{FrameLaws.Cleared, FrameLaws.link_most, OptionLaws.area_number}
use proofs.HandlingLaws.{unread_number, length_error, length_echo, echo_ranged, channel_echo}

-- an answer that writes nothing, and after which no run goes on
abbrev pub final : ℕ → Bool
final n = given n && ltb n 64 && not (eqb n 50 || writes_reply n)

pub record Final (a : Handled) : Type 0 where
  pub closed : final a.number ≡ true
  pub nothing : a.octets ≡ []
  pub nothing_beside : a.beside ≡ []

-- of numbers in a range, computed for each
final_within : (low high n : ℕ) → every_below (suc high) (λ m. ltb m low || final m) ≡ true → low ≤ n → n ≤ high → final n ≡ true
final_within low high n all l h = rw (le-ltb n low l) at (each_below (suc high) (λ m. ltb m low || final m) all n (omega arith))

-- what stands beside a forwarded frame: nothing, or in edition 2 the reply to an echo request
pub data Beside (S : Ways) (clock f : List ℕ) (h : Header) : List ℕ → ℕ → Type 0 where
  alone : Beside S clock f h [] 0
  replied : (r : NextHop) → S.rfc7179 ≡ true → return_path S h.ingress ≡ Some r → channel_read (inner_of f h) ≡ EchoRequest
      → Beside S clock f h (echo_reply S r h clock (body_of (inner_of f h))) r.neighbour

-- an error reply is made at the egress, and in edition 2 for a critical alert at transit too
pub data How (S : Ways) (clock f : List ℕ) : Handled → Type 0 where
  ends : {a : Handled} → Final a → How S clock f a
  forwards : (h : Header) (r : NextHop) {beside : List ℕ} {via : ℕ} → Cleared S f h false → S.hop h.egress ≡ Some r
      → length (forwarded S r f h) ≤ frame_most → Beside S clock f h beside via
      → How S clock f (wrote_both 50 (forwarded S r f h) r.neighbour beside via)
  faults : {egress : Bool} (h : Header) (r : NextHop) (fault : ChannelFault) → Cleared S f h egress → (egress ≡ false → S.rfc7179 ≡ true)
      → return_path S h.ingress ≡ Some r → channel_read (inner_of f h) ≡ Fault fault
      → How S clock f (wrote 53 (error_reply S r f h (err_of fault)) r.neighbour)
  echoes : (h : Header) (r : NextHop) → Cleared S f h true → return_path S h.ingress ≡ Some r → channel_read (inner_of f h) ≡ EchoRequest
      → How S clock f (wrote 54 (echo_reply S r h clock (body_of (inner_of f h))) r.neighbour)

and_first : (a b c : Bool) → (a && b && c) ≡ true → a ≡ true
and_first a b c e = and_left a b (and_left (a && b) c e)

each_ruling : (P : Handled → Type 0) (w : Option NextHop) (x : Handled) (y : NextHop → Handled) → P x → ((r : NextHop) → w ≡ Some r → P (y r))
    → P (elim w [ None ↦ x | Some r ↦ y r ])
each_ruling P None x y n s = n
each_ruling P (Some r) x y n s = s r refl

-- a fault's code is 1 to 5, so it fits the four bits of ERR
pub fault_small : (fault : ChannelFault) → err_of fault < 16
fault_small HeaderShort = omega arith
fault_small OtherEthertype = omega arith
fault_small OtherVersion = omega arith
fault_small WrongNative = omega arith
fault_small OtherProtocol = omega arith

-- the numbers of what is refused
header_final : (mac : ℕ) (f : List ℕ) (h : Header) → (eqb (header_refusal mac f h) 0 || final (header_refusal mac f h)) ≡ true
unfolding header_refusal given
header_final mac f h = search (either (λ n. (eqb n 0 || final n) ≡ true)) depth 12

abbrev FinalArea : AreaRead → Type 0
FinalArea WellFormed = Unit {0}
FinalArea (Faulty n p) = final (number_of n) ≡ true

draft_final : (area : List ℕ) → FinalArea (draft_read area)
unfolding given
draft_final area =
    elim (draft_read area) as (λ w. draft_read area ≡ w → FinalArea w) [
      | WellFormed ↦ λ e. Prim.tt
      | Faulty n p ↦ λ e. let d = area_number area n p e in final_within 30 35 (number_of n) refl d.from d.to
    ] refl

area_final : (S : Ways) (area : List ℕ) → FinalArea (area_read S area)
unfolding area_read extension_read given
area_final S area = search (either FinalArea, draft_final)

quiet : {S : Ways} {clock f : List ℕ} (n start size : ℕ) → final n ≡ true → How S clock f (delivered n start size)
quiet n start size e = ends (record { closed = e; nothing = refl; nothing_beside = refl })

module _ (S : Ways) (clock f : List ℕ) (h : Header) where
  how_faulted : {egress : Bool} → Cleared S f h egress → (egress ≡ false → S.rfc7179 ≡ true) → (fault : ChannelFault) → channel_read (inner_of f h) ≡ Fault fault
      → How S clock f (faulted S f h (err_of fault))
  unfolding faulted given
  how_faulted t two fault c =
      by_test (silenced (err_of fault) (inner_of f h)) (λ e. rw e (quiet 25 0 0 refl)) (λ e. rw e
      (each_ruling (How S clock f) (return_path S h.ingress) _ _ (quiet 25 0 0 refl) (λ r n. faults h r fault t two n c)))

  -- an echo request, answered by itself or beside
  echoed_by : (P : Handled → Type 0) → P (dropped 28)
      → ((r : NextHop) → return_path S h.ingress ≡ Some r → P (wrote 54 (echo_reply S r h clock (body_of (inner_of f h))) r.neighbour))
      → P (echoed S clock f h)
  unfolding echoed
  echoed_by P lost over =
      by_test (eqb (reply_mode (body_of (inner_of f h))) 2) (λ e. rw e (each_ruling P (return_path S h.ingress) _ _ lost over)) (λ e. rw e lost)

  how_channelled : Cleared S f h true → (c : ChannelRead) → channel_read (inner_of f h) ≡ c → How S clock f (channelled S clock f h c)
  unfolding channelled given
  how_channelled t (Fault code) e = how_faulted t (λ z. absurd (true≢false z)) code e
  how_channelled t BadErr e = quiet 26 0 0 refl
  how_channelled t ErrorHeard e = quiet 55 0 0 refl
  how_channelled t BadEcho e = quiet 27 0 0 refl
  how_channelled t EchoHeard e = quiet 56 0 0 refl
  how_channelled t EchoRequest e = echoed_by (How S clock f) (quiet 28 0 0 refl) (λ r n. echoes h r t n e)

  how_decapsulated : Cleared S f h true → How S clock f (decapsulated S clock f h)
  unfolding decapsulated given
  how_decapsulated t = search (either (How S clock f), quiet, how_channelled t (channel_read (inner_of f h)) refl) depth 12

  module _ (t : Cleared S f h false) (r : NextHop) (found : S.hop h.egress ≡ Some r) where
    how_onward : {beside : List ℕ} {via : ℕ} → Beside S clock f h beside via → How S clock f (onward S r f h beside via)
    unfolding onward given
    how_onward b = search (either (How S clock f), quiet, forwards, ltb-false)

    how_alerted : S.rfc7179 ≡ true → (critical answered : Bool) (c : ChannelRead) → channel_read (inner_of f h) ≡ c
        → How S clock f (alerted S r clock f h (alert_to critical answered c))
    unfolding alerted alert_to given
    how_alerted two true answered (Fault code) e = how_faulted t (λ _. two) code e
    how_alerted two false answered (Fault code) e = how_onward alone
    how_alerted two true answered BadErr e = quiet 26 0 0 refl
    how_alerted two false answered BadErr e = how_onward alone
    how_alerted two critical answered ErrorHeard e = how_onward alone
    how_alerted two critical answered BadEcho e = how_onward alone
    how_alerted two critical answered EchoHeard e = how_onward alone
    how_alerted two critical true EchoRequest e = how_onward (echoed_by (λ a. Beside S clock f h a.octets a.via) alone (λ r n. replied r two n e))
    how_alerted two critical false EchoRequest e = how_onward alone

  how_transit : Cleared S f h false → How S clock f (transit S clock f h)
  unfolding transit alert_of alerted given
  how_transit t =
      each_ruling (How S clock f) (S.hop h.egress) _ _ (quiet 21 0 0 refl) (λ r found.
      search (either (λ a. How S clock f (alerted S r clock f h a)), how_onward t r found alone, how_alerted t r found, and_first))

  how_routed : read_frame f ≡ Ok h → header_refusal S.mac f h ≡ 0 → How S clock f (routed S clock f h)
  unfolding routed given
  how_routed read unrefused =
      elim (area_read S (area_of f h)) as (λ w. area_read S (area_of f h) ≡ w → How S clock f (routed S clock f h)) [
        | Faulty n p ↦ λ a. rw (routed, a) (quiet (number_of n) p 0 (rw a at (area_final S (area_of f h))))
        | WellFormed ↦ λ a.
            let cleared : (b : Bool) → we_are_egress S.nickname h ≡ b → Cleared S f h b =
            λ b c. record { read = read; unrefused = unrefused; well = a; role = c } in
            rw (routed, a) (search (either (How S clock f), quiet, how_decapsulated, how_transit, cleared))
      ] refl

pub how : (S : Ways) (clock f : List ℕ) → How S clock f (handling S clock f)
unfolding handling given
how S clock f =
    elim (read_frame f) as (λ w. read_frame f ≡ w → How S clock f (handling S clock f)) [
      | Err n ↦ λ e. rw (handling, e) (let r = unread_number f n e in quiet (number_of n) 0 0 (final_within 10 11 (number_of n) refl r.0 r.1))
      | Ok h ↦ λ e.
          rw (handling, e) (by_test (eqb (header_refusal S.mac f h) 0)
          (λ a. rw a (how_routed S clock f h e (eqb-true _ 0 a)))
          (λ a. rw a (quiet _ 0 0 (rw a at (header_final S.mac f h)))))
    ] refl

-- what is said of every answer
pub record Bounded (a : Handled) : Type 0 where
  pub listed : given a.number ≡ true
  pub number_small : a.number < 64
  pub fits : length a.octets ≤ frame_most
  pub fits_beside : length a.beside ≤ beside_least

pub echo_fits : (S : Ways) (r : NextHop) (clock f : List ℕ) (h : Header) → length clock ≡ 6 → channel_read (inner_of f h) ≡ EchoRequest
    → length (echo_reply S r h clock (body_of (inner_of f h))) ≤ 576
echo_fits S r clock f h six c =
    let ranged = echo_ranged (body_of (inner_of f h)) (channel_echo (inner_of f h) c) in
    omega (arith, length_echo S r f h clock (body_of (inner_of f h)) six ranged.0, ranged.1, link_most S r)

bounded : {a : Handled} → (given a.number && ltb a.number 64) ≡ true → length a.octets ≤ frame_most → length a.beside ≤ beside_least
    → Bounded a
bounded e o b = record { listed = search and_left; number_small = search (ltb-true, and_right); fits = o; fits_beside = b }

how_bounded : (S : Ways) (clock f : List ℕ) {a : Handled} → length clock ≡ 6 → How S clock f a → Bounded a
unfolding given
how_bounded S clock f {a} six (ends o) =
    bounded (and_left (given a.number && ltb a.number 64) _ o.closed) (rw o.nothing (omega arith)) (rw o.nothing_beside (omega arith))
how_bounded S clock f six (forwards h r t found fits alone) = bounded refl fits (omega arith)
how_bounded S clock f six (forwards h r t found fits (replied q two e c)) = bounded refl fits (echo_fits S q clock f h six c)
how_bounded S clock f six (faults h r fault t two found c) = bounded refl (omega (arith, length_error S r f h (err_of fault))) (omega arith)
how_bounded S clock f six (echoes h r t found c) = bounded refl (omega (arith, echo_fits S r clock f h six c)) (omega arith)

pub handling_bounded : (S : Ways) (clock f : List ℕ) → length clock ≡ 6 → length f ≤ frame_most → Bounded (handling S clock f)
handling_bounded S clock f six short = how_bounded S clock f six (how S clock f)

-- every answer of the whole call: a number under 64, at most 2,048 octets written
pub handled_bounded : (settings clock : List ℕ) (room beside_room : ℕ) (f : List ℕ) → Bounded (handled settings clock room beside_room f)
unfolding given handled handled_with
handled_bounded settings clock room beside_room f =
    by_option (settings_of settings)
    (λ e. rw (handled, e) (bounded refl (omega arith) (omega arith)))
    (λ S e. rw (handled, e) (search (either Bounded, bounded, leb-true, handling_bounded, eqb-true, not-false, ltb-false) depth 8))
