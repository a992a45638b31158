-- What one handling does to a frame on its way, whatever the edition: forwarding takes one from its hop count and keeps egress and inner frame, a
-- reply has hop count 63 and nothing replies to it, and the neighbour named is that of the record which rules for the written frame's egress; in
-- edition 1 only the egress replies, and nothing stands beside what is forwarded. By reading back what is written.
use Rattle.std.specs.Prelude.{Option, Some, None, Ok, Err}
use mathlib.Core.Path.{◌≡◌, refl, sym, ap, ◌∙◌}
use mathlib.Core.List.Memᴰ
use mathlib.Core.List.{List, [], ◌∷◌, ◌++◌, Memᴰ}
use mathlib.Core.Logic.{◌⊎◌, inl, inr}
use mathlib.Core.Bool.{Bool, true, false, ◌||◌, true≢false}
use Prim.Native.Nat.{ℕ, suc, ◌<◌, ◌≤◌}
use native.Mathlib.Omega.{arith}
use borrow.Author.Tests.{eq-eqb, ne_eqb, eqb-true, not-true}
use lib.Dec.{eqb}
use lib.ListN.{length}
use Rattle.rules.specs
use specs.Settings.{Settings, ruling, next_hop, ways_of}
use specs.{Link.link, Answer.Handled, Answer.wrote_both}
use specs.Header.{hop_count, any_rbridge, read_frame, inner_of, we_are_egress}
use specs.Channel.{protocol_error, protocol_echo, body_of, channel_read, return_path, reply_inner, reply_rest, error_body, echo_body, error_reply, echo_reply}
use specs.Handling.{forwarded, beside_least, handling}
use specs.Campus.{switch_named, Waiting, writes_reply, replies_made, hop_received, egress_received}
use specs.Answer.{err_of}
use specs.declared.{NextHop.NextHop, Header.Header, Number.Number, ChannelFault.ChannelFault}
use specs.declared.ChannelRead.TheVariants.{Fault, ErrorHeard, EchoHeard, EchoRequest}
use Rattle.rules.proofs
use proofs.TestLaws.{apart, by_test, and_right, or_left, or_right}
use proofs.FrameLaws.{Cleared, frame_read, link_written, header_passed, sent_hop, sent_header, forwarded_read, forwarded_inner}
use proofs.ReplyLaws.{reply_header, reply_read, reply_inner_lem, error_heard, echo_heard, echo_body_length, echo_body_spid}
use proofs.HandlingLaws.{echo_ranged, channel_echo, length_error, length_echo}
use proofs.NextLaws.{made_reply}
use proofs.HandledLaws.{alone, replied, How, fault_small, how, echo_fits}

-- hop count and egress of a frame
module _ (f : List ℕ) where
  pub hop_read : (h : Header) → read_frame f ≡ Ok h → hop_received f ≡ hop_count h.word
  unfolding hop_received
  hop_read h e = rw (hop_received, e)

  pub hop_unread : (n : Number) → read_frame f ≡ Err n → hop_received f ≡ 0
  unfolding hop_received
  hop_unread n e = rw (hop_received, e)

  pub egress_read : (h : Header) → read_frame f ≡ Ok h → egress_received f ≡ h.egress
  unfolding egress_received
  egress_read h e = rw (egress_received, e)

  pub hop_most : hop_received f ≤ 63
  hop_most =
      elim (read_frame f) as (λ w. read_frame f ≡ w → hop_received f ≤ 63) [
        | Err n ↦ λ e. omega (arith, hop_unread n e)
        | Ok h ↦ λ e. omega (arith, hop_read h e)
      ] refl

-- whether a switch is the egress of a frame, and where it forwards one: both by the frame's egress alone
unfoldable pub ours : ℕ → Settings → Bool
ours egress S = eqb egress S.nickname || eqb egress any_rbridge

unfoldable pub towards : List Settings → ℕ → Settings → Option Settings
towards switches egress S = elim (next_hop S egress) [ None ↦ None | Some r ↦ switch_named switches r.neighbour ]

ours_role : (S : Settings) (f : List ℕ) (h : Header) → read_frame f ≡ Ok h → ours (egress_received f) S ≡ we_are_egress S.nickname h
unfolding ours we_are_egress
ours_role S f h e = rw (egress_read f h e)

-- what a reply of ours is, wherever it is on its way: a frame that is heard at its egress, so that nothing answers it
abbrev pub Heard : List ℕ → Type 0
Heard inner = (channel_read inner ≡ ErrorHeard) ⊎ (channel_read inner ≡ EchoHeard)

pub record IsReply (f : List ℕ) : Type 0 where
  pub header : Header
  pub read : read_frame f ≡ Ok header
  pub heard : Heard (inner_of f header)

reply_heard : (f : List ℕ) {h : Header} → read_frame f ≡ Ok h → IsReply f → Heard (inner_of f h)
reply_heard f {h} e y = let same : y.header ≡ h = cc y.read in rw same at y.heard

-- "the neighbour in the writing switch's ruling record for that frame's egress": of a frame written, and the neighbour that it goes to
pub record NextSwitch (S : Settings) (written : List ℕ) (via : ℕ) : Type 0 where
  pub hop : NextHop
  pub rules : ruling S.hops (egress_received written) ≡ Some hop
  pub neighbour : via ≡ hop.neighbour

module _ (S : Settings) (d : ℕ) (r : NextHop) where
  hop_rules : next_hop S d ≡ Some r → ruling S.hops d ≡ Some r
  unfolding next_hop
  hop_rules e =
      elim (ruling S.hops d) as (λ w. ruling S.hops d ≡ w → ruling S.hops d ≡ Some r) [
        | None ↦ λ is. apart (cc (rw (next_hop, is) at e))
        | Some q ↦ λ is.
            by_test (eqb q.neighbour 0) (λ b. apart (cc (rw (next_hop, is, b) at e))) (λ b. is ∙ (rw (next_hop, is, b) at e))
      ] refl

  return_rules : return_path (ways_of S) d ≡ Some r → ruling S.hops d ≡ Some r
  unfolding return_path
  return_rules e = by_test (eqb d S.nickname) (λ b. apart (cc (rw b at e))) (λ b. hop_rules (rw b at e))

-- what goes on after a handling that answers 50
pub record Forwarded (S : Settings) (f : List ℕ) (a : Handled) : Type 0 where
  pub is_50 : eqb a.number 50 ≡ true
  pub transit : ours (egress_received f) S ≡ false
  pub one_less : hop_received f ≡ suc (hop_received a.octets)
  pub same_egress : egress_received a.octets ≡ egress_received f
  pub goes : (switches : List Settings) → towards switches (egress_received f) S ≡ switch_named switches a.via
  pub next : NextSwitch S a.octets a.via
  pub reply_kept : IsReply f → IsReply a.octets

module _ (S : Settings) (f : List ℕ) (h : Header) (r : NextHop) (t : Cleared (ways_of S) f h false) (found : next_hop S h.egress ≡ Some r) where
  abbrev sent : Header
  sent = sent_header t (link_written (ways_of S) r)

  sent_read : read_frame (forwarded (ways_of S) r f h) ≡ Ok sent
  unfolding forwarded
  sent_read = forwarded_read t (link_written (ways_of S) r)

  sent_inner : inner_of (forwarded (ways_of S) r f h) sent ≡ inner_of f h
  unfolding forwarded
  sent_inner = forwarded_inner t (link_written (ways_of S) r)

  forwarded_on : (beside : List ℕ) (via : ℕ) → Forwarded S f (wrote_both 50 (forwarded (ways_of S) r f h) r.neighbour beside via)
  unfolding towards
  forwarded_on beside via =
      let out = egress_read (forwarded (ways_of S) r f h) sent sent_read in
      let hops = hop_read (forwarded (ways_of S) r f h) sent sent_read in
      record {
        is_50 = refl;
        transit = ours_role S f h t.read ∙ t.role;
        one_less = omega (arith, hop_read f h t.read, sent_hop t, hops);
        same_egress = out ∙ sym (egress_read f h t.read);
        goes = λ switches. rw (egress_read f h t.read, towards, found);
        next = record { hop = r; rules = rw out (hop_rules S h.egress r found); neighbour = refl };
        reply_kept = λ y. record { header = sent; read = sent_read; heard = rw sent_inner (reply_heard f t.read y) };
      }

-- a reply made to a frame, and the neighbour that it goes to
pub record Answered (S : Settings) (f written : List ℕ) (via : ℕ) : Type 0 where
  pub hops_left : 1 ≤ hop_received f
  pub not_a_reply : IsReply f → ⊥
  pub full : hop_received written ≡ 63
  pub next : NextSwitch S written via
  pub is_reply : IsReply written
  pub short : length written ≤ beside_least

module _ (S : Settings) (own : S.nickname < 65536) (f : List ℕ) (h : Header) (r : NextHop) {egress : Bool} (t : Cleared (ways_of S) f h egress)
    (found : return_path (ways_of S) h.ingress ≡ Some r) where
  -- either reply, as it is written
  module _ (number code : ℕ) (body : List ℕ) where
    abbrev written : List ℕ
    written = link (ways_of S) r ++ reply_rest (ways_of S) h.ingress number code body

    answered : Heard (reply_inner (ways_of S) number code body) → (Heard (inner_of f h) → ⊥) → length written ≤ beside_least
        → Answered S f written r.neighbour
    answered heard new short =
        let fits = (frame_read f h t.read).ingress_fits in
        let header = reply_header (ways_of S) own fits number code body (link_written (ways_of S) r) in
        let read = reply_read (ways_of S) own fits number code body (link_written (ways_of S) r) in
        let inner = reply_inner_lem (ways_of S) own fits number code body (link_written (ways_of S) r) in
        record {
          hops_left = omega (arith, hop_read f h t.read, (header_passed (ways_of S) f h t.unrefused).hops_left);
          not_a_reply = λ y. new (reply_heard f t.read y);
          full = hop_read written header read;
          next = record { hop = r; rules = rw (egress_read written header read) (return_rules S h.ingress r found); neighbour = refl };
          is_reply = record { header = header; read = read; heard = rw inner heard };
          short = short;
        }

  error_answered : (fault : ChannelFault) → channel_read (inner_of f h) ≡ Fault fault → Answered S f (error_reply (ways_of S) r f h (err_of fault)) r.neighbour
  unfolding error_reply
  error_answered fault c =
      let code = err_of fault in
      answered protocol_error code (error_body f h) (inl (error_heard (ways_of S) code (error_body f h) (fault_small fault)))
      (λ w. elim w [ inl e ↦ apart cc | inr e ↦ apart cc ])
      (omega (arith, length_error (ways_of S) r f h code))

  echo_answered : (clock : List ℕ) → length clock ≡ 6 → channel_read (inner_of f h) ≡ EchoRequest
      → Answered S f (echo_reply (ways_of S) r h clock (body_of (inner_of f h))) r.neighbour
  unfolding echo_reply
  echo_answered clock six c =
      let body = body_of (inner_of f h) in
      let ranged = echo_ranged body (channel_echo (inner_of f h) c) in
      let n = echo_body_length body clock ranged.0 six in
      answered protocol_echo 0 (echo_body body clock)
      (inr (echo_heard (ways_of S) (echo_body body clock) (omega arith) (omega arith) (echo_body_spid body clock)))
      (λ w. elim w [ inl e ↦ apart cc | inr e ↦ apart cc ])
      (echo_fits (ways_of S) r clock f h six c)

-- the replies that a handling makes: none, or one to its frame
pub data Made (S : Settings) (f : List ℕ) : List Waiting → Type 0 where
  nothing : Made S f []
  one : (w : Waiting) → Answered S f w.frame w.towards → Made S f (w ∷ [])

-- every handling ends the frame's way, forwards it, perhaps with a reply beside, or replies; in edition 1 nothing stands beside what is
-- forwarded, and only the egress replies
pub data Does (S : Settings) (f : List ℕ) (a : Handled) : Type 0 where
  ends : eqb a.number 50 ≡ false → writes_reply a.number ≡ false → replies_made a ≡ [] → Does S f a
  forwards : Forwarded S f a → Made S f (replies_made a) → (S.rfc7179 ≡ false → replies_made a ≡ []) → Does S f a
  replies : eqb a.number 50 ≡ false → writes_reply a.number ≡ true → Answered S f a.octets a.via
      → (S.rfc7179 ≡ false → ours (egress_received f) S ≡ true) → Does S f a

-- what of it a run needs, whatever the edition: a frame that goes on was forwarded; each reply made answers the frame
module _ {S : Settings} {f : List ℕ} {a : Handled} where
  pub does_forward : Does S f a → eqb a.number 50 ≡ true → Forwarded S f a
  does_forward (ends n s m) e = apart cc
  does_forward (forwards o m old) e = o
  does_forward (replies n y o at) e = apart cc

  pub does_make : Does S f a → Made S f (replies_made a)
  does_make (ends n s m) = rw m nothing
  does_make (forwards o m old) = m
  does_make (replies n y o at) = rw (made_reply a y) (one _ o)

  does_short : Does S f a → writes_reply a.number ≡ true → length a.octets ≤ beside_least
  does_short (ends n s m) e = apart cc
  does_short (forwards o m old) e = apart (cc (ap writes_reply (eqb-true a.number 50 o.is_50)))
  does_short (replies n y o at) e = o.short

module _ (S : Settings) (clock f : List ℕ) (own : S.nickname < 65536) (six : length clock ≡ 6) where
  at_egress : (egress : Bool) (h : Header) → Cleared (ways_of S) f h egress → (egress ≡ false → S.rfc7179 ≡ true) → S.rfc7179 ≡ false
      → ours (egress_received f) S ≡ true
  at_egress true h t two old = ours_role S f h t.read ∙ t.role
  at_egress false h t two old = apart (cc (two refl))

  does_how : {a : Handled} → How (ways_of S) clock f a → Does S f a
  unfolding replies_made
  does_how {a} (How.ends o) =
      let silent : writes_reply a.number ≡ false = search (or_right, not-true, and_right, o.closed) in
      ends (search (or_left, not-true, and_right, o.closed)) silent (rw (silent, o.nothing_beside))
  does_how (How.forwards h r t found fits alone) = forwards (forwarded_on S f h r t found [] 0) nothing (λ old. refl)
  does_how (How.forwards h r t found fits (replied q two e c)) =
      let body = body_of (inner_of f h) in
      let ranged = echo_ranged body (channel_echo (inner_of f h) c) in
      let long = length_echo (ways_of S) q f h clock body six ranged.0 in
      forwards (forwarded_on S f h r t found _ _)
      (rw (ne_eqb (length (echo_reply (ways_of S) q h clock body)) 0 (λ z. omega arith)) (one _ (echo_answered S own f h q t e clock six c)))
      (λ old. apart cc)
  does_how (How.faults {egress = egress} h r fault t two found c) =
      replies refl refl (error_answered S own f h r t found fault c) (at_egress egress h t two)
  does_how (How.echoes h r t found c) =
      replies refl refl (echo_answered S own f h r t found clock six c) (at_egress true h t (λ z. absurd (true≢false z)))

  pub does : Does S f (handling (ways_of S) clock f)
  does = does_how (how (ways_of S) clock f)

  -- a reply, 53 or 54, is as short as one beside
  pub reply_short : writes_reply (handling (ways_of S) clock f).number ≡ true → length (handling (ways_of S) clock f).octets ≤ beside_least
  reply_short e = does_short does e

  -- where a frame that is written goes next, forwarded or a reply: the run goes by the neighbour named, document 01 by the ruling record
  pub forwarded_next : (handling (ways_of S) clock f).number ≡ 50 → NextSwitch S (handling (ways_of S) clock f).octets (handling (ways_of S) clock f).via
  forwarded_next e = (does_forward does (eq-eqb (handling (ways_of S) clock f).number 50 e)).next

  pub reply_next : (w : Waiting) → Memᴰ w (replies_made (handling (ways_of S) clock f)) → NextSwitch S w.frame w.towards
  reply_next w = go (does_make does)
    where
      go : {l : List Waiting} → Made S f l → Memᴰ w l → NextSwitch S w.frame w.towards
      go nothing j = absurd (Memᴰ.not-nil j)
      go (one v o) j = rw (Memᴰ.eq_of_singleton j) o.next
