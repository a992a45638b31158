-- A buffer written in stages: what fits is written, and writes to places side by side are one write. So a link header, a forwarded frame behind
-- it (its header and the rest in one, or another area before the inner frame), and the two replies. By laws of parts and of `put`.
use Rattle.std.specs.Prelude.{if◌then◌else◌, Ok}
use Rattle.rules.specs as rules
use rules.{Settings.Ways, Channel.echo_body, Channel.ethertype_channel, Channel.all_egress_rbridges}
use rules.Link.{outer_tag, link, ethertype_tag, ethertype_trill}
use rules.Header.{op_length, inner_start, read_frame, area_of, inner_of}
use Rattle.rules.proofs.{TestLaws.and_left, TestLaws.and_right, TestLaws.by_test}
use borrow.Author.Tests.{eq-eqb, ne_eqb}
use borrow.Author.Rules.{rules}
use rules.Octets.{be16, octets16, octets48, octet, part, put}
use mathlib.Core.Path.{◌≡◌, ◌∙◌, refl, sym, ap}
use mathlib.Core.List.{List, ◌++◌, append_assoc, [], ◌∷◌}
use Prim.Native.Nat.{ℕ, ◌+◌, ◌-◌, ◌≤◌, ◌*◌, ◌/◌, ◌<◌, ◌%◌}
use native.Mathlib.Omega.{arith}
use native.Mathlib.Nat.{add-zero}
use lib.ListN.{length, take, drop, length-drop, length-append, get_or, length-take, take-append-drop, drop_of_length-le}
use lib.Seq.{take_all, take-add, drop-drop, drop-cons, length-take-le}
use lib.Dec.{eqb}
use Rattle.rules.proofs.OctetLaws.{length_part, drop_part, put_inside, put_tail, octets16_be16}
use Rattle.rules.proofs.FrameLaws.{frame_read, link_length_lem}
use mir.Syntax.{w8}
use mir.Val as Val
use Rattle.handler.specs
use specs.Shapes.{link_size, Ready, sent_by, header_sent, rest_with, reply_octets, ways_by}
use Rattle.octets.specs.Words.{octets64}
use Rattle.octets.specs.Copy.{Wrote, fitting}
use Rattle.octets.proofs.Ends.{copied, wrote_long, joined, copied_on}
use rules.declared.{NextHop.NextHop, Header.Header}
use specs.declared.way.{Own.Own, Lookup.Lookup}

-- what is lent from a place on is what is left from there on
pub lent_rest : (s : List ℕ) (n : ℕ) → take (length s - n) (drop n s) ≡ drop n s
lent_rest s n = take_all (length s - n) (drop n s) (rw length-drop (omega arith))

-- a link header has 14 octets, or 18 with a tag
pub link_sized : (vlan : ℕ) → (14 ≤ link_size vlan) × (link_size vlan ≤ 18)
link_sized vlan = by_test (eqb vlan 0) (λ e. rw e (omega arith)) (λ e. rw e (omega arith))

-- the parts of a conjunction that holds, for `search` to go down into
pub ruleset parts = (and_left, and_right)

-- a choice by whether two numbers are equal
module _ {A : Type 0} (r x y : A) (n k : ℕ) where
  pub if_equal : n ≡ k → r ≡ x → r ≡ (if eqb n k then x else y)
  if_equal e is = rw (eq-eqb n k e) is

  pub if_other : (n ≡ k → ⊥) → r ≡ y → r ≡ (if eqb n k then x else y)
  if_other o is = rw (ne_eqb n k o) is

pub ruleset if_laws = (rules, if_equal, if_other)

-- a write over the end of the one before
over : (s t : List ℕ) {out mid out' u : List ℕ} {at here from end : ℕ} → Wrote (s ++ t) at here out mid → from ≡ at + length s → Wrote u from end mid out'
    → length t ≤ length u → at + length s ≤ length out → Wrote (s ++ u) at end out out'
over s t {out} {u = u} {at = at} a e b short room =
    record { ends = rw length-append (omega arith); after = b.after ∙ rw (a.after, e) (put_tail out at s t u room short) }

-- so a copy that has room
onto : (s t : List ℕ) {u a out mid out' : List ℕ} {at here from end : ℕ} → Wrote (s ++ t) at here out mid → from ≡ at + length s → a ≡ u
    → Wrote (fitting mid from a) from end mid out' → length t ≤ length u → from + length u ≤ length out → Wrote (s ++ u) at end out out'
onto s t p there e q more room =
    over s t p there (copied q e (omega (arith, wrote_long p (rw (p.ends, length-append s t) (omega arith))))) more (omega arith)

-- a MAC above 16 bits more
octets_above : (mac : ℕ) → octets48 (mac * 65536 % 18446744073709551616 / 65536) ≡ octets48 mac
octets_above mac =
    let x = mac * 65536 % 18446744073709551616 / 65536 in
    let a : x / 4294967296 / 256 % 256 ≡ mac / 4294967296 / 256 % 256 = omega arith in
    let b : x / 4294967296 % 256 ≡ mac / 4294967296 % 256 = omega arith in
    let c : x / 65536 / 256 % 256 ≡ mac / 65536 / 256 % 256 = omega arith in
    let d : x / 65536 % 256 ≡ mac / 65536 % 256 = omega arith in
    let e : x / 256 % 256 ≡ mac / 256 % 256 = omega arith in
    let f : x % 256 ≡ mac % 256 = omega arith in
    rw (a, b, c, d, e, f)

-- both MACs
pub macs_written : (to own at m n : ℕ) (d d1 d2 a b : List ℕ) → a ≡ octets64 (to * 65536 % 18446744073709551616)
    → b ≡ octets64 own → Wrote (fitting d at a) at m d d1 → Wrote (fitting d1 (at + 6) b) (at + 6) n d1 d2 → at + 14 ≤ length d
    → Wrote (octets48 to ++ octets64 own) at (at + 14) d d2
macs_written to own at m n d d1 d2 a b ea eb p q room =
    let w = to * 65536 % 18446744073709551616 in
    let first : Wrote (octets48 (w / 65536) ++ octets16 w) at m d d1 = copied p ea (omega arith) in
    let both = onto (octets48 (w / 65536)) (octets16 w) first refl eb q (omega arith) (omega arith) in
    record { ends = refl; after = both.after ∙ ap (λ (x : List ℕ). put d at (x ++ octets64 own)) (octets_above to) }

pub ruleset write_macs_laws = (rules, macs_written)

-- what stands behind them
pub macs_room : (r : NextHop) (out : List ℕ) → link_size r.vlan ≤ length out → 0 + 14 ≤ length out
macs_room r out h = omega (arith, link_sized r.vlan)

module _ (S : Ways) (r : NextHop) (word : ℕ) (own : word / 65536 ≡ S.mac) (d d1 d2 end : List ℕ) (n : ℕ)
    (p : Wrote (octets48 r.mac ++ octets64 word) 0 14 d d1) (q : Wrote (fitting d1 12 end) 12 n d1 d2) (room : link_size r.vlan ≤ length d) where
  macs : List ℕ
  macs = octets48 r.mac ++ octets48 (word / 65536)

  behind : {rest : List ℕ} → end ≡ rest → 12 + length rest ≤ length d → 2 ≤ length rest → Wrote (macs ++ rest) 0 n d d2
  unfolding macs
  behind {rest} e fits more =
      let first : Wrote (macs ++ octets16 word) 0 14 d d1 = record { ends = refl; after = p.after } in
      over macs (octets16 word) first refl (copied q e (omega (arith, wrote_long first (omega arith)))) more (omega arith)

  pub plain_written : r.vlan ≡ 0 → end ≡ octets16 0x22F3 → Wrote (link S r) 0 n d d2
  unfolding link outer_tag macs
  plain_written z e = rw (z, ← own) (behind e (rw z at room) (omega arith))

  pub tagged_written : (r.vlan ≡ 0 → ⊥) → (s : List ℕ) → s ≡ octets16 ethertype_tag ++ octets16 r.vlan ++ octets16 ethertype_trill ++ octets16 0
      → end ≡ take 6 s → Wrote (link S r) 0 n d d2
  unfolding link outer_tag macs
  tagged_written z s is e = rw (ne_eqb r.vlan 0 z, ← own) (behind (e ∙ ap (take 6) is) (rw (ne_eqb r.vlan 0 z) at room) (omega arith))

pub six_of_eight : (a b c d : ℕ) (s : List ℕ) → s ≡ octets16 a ++ octets16 b ++ octets16 c ++ octets16 d → 6 ≡ length (take 6 s)
six_of_eight a b c d s is = rw is

pub lookup_mac : (t : Lookup) → t.own.word / 65536 ≡ (ways_by t).mac
lookup_mac t = refl

pub ruleset write_link_laws = (rules, macs_room, plain_written, tagged_written, six_of_eight, lookup_mac)

-- a forwarded frame behind its link header
module _ (f : List ℕ) (h : Header) (area : List ℕ) where
  abbrev word : List ℕ
  word = octets16 (sent_by h.word (length area / 4))

  pub rest_long : length (rest_with area f h) ≡ 6 + length area + (length f - inner_start h)
  unfolding rest_with
  rest_long =
      let head = word ++ octets16 h.egress ++ octets16 h.ingress in
      length-append (head ++ area) (inner_of f h) ∙ rw (length-append head area, length-drop (inner_start h) f)

-- its header: the nicknames go on as they were received
module _ (f : List ℕ) (h : Header) (read : read_frame f ≡ Ok h) (small : (i : ℕ) → Val.Fits w8 (get_or f i 0)) where
  pub nicknames_read : octets16 h.egress ++ octets16 h.ingress ≡ part f (h.place + 2) 4
  nicknames_read =
      let is = frame_read f h read in
      let from = h.place + 2 in
      let next : h.place + 4 ≡ from + 2 = omega arith in
      let one = ap octets16 is.its_egress ∙ octets16_be16 f from (λ i. omega (arith, small i)) (omega (arith, is.whole)) in
      let two = ap octets16 (is.its_ingress ∙ ap (be16 f) next) ∙ octets16_be16 f (from + 2) (λ i. omega (arith, small i)) (omega (arith, is.whole)) in
      let both : part f from 4 ≡ part f from 2 ++ part f (from + 2) 2 = take-add 2 2 (drop from f) ∙ rw drop-drop in
      ap (λ (x : List ℕ). x ++ octets16 h.ingress) one ∙ ap (λ (x : List ℕ). part f from 2 ++ x) two ∙ sym both

module _ (f : List ℕ) (h : Header) (is : Ready f h) where
  rest_is : (area : List ℕ) → rest_with area f h ≡ header_sent f h (length area / 4) ++ area ++ inner_of f h
  unfolding rest_with
  rest_is area =
      let word = octets16 (sent_by h.word (length area / 4)) in
      ap (λ (x : List ℕ). x ++ area ++ inner_of f h)
      (append_assoc word (octets16 h.egress) (octets16 h.ingress) ∙ ap (λ (x : List ℕ). word ++ x) is.nicknames)

module _ {f : List ℕ} {h : Header} (is : Ready f h) where
  pub whole : h.place + 6 ≤ length f
  whole = (frame_read f h is.read).whole

  header_long : (words : ℕ) → length (header_sent f h words) ≡ 6
  header_long words =
      length-append (octets16 (sent_by h.word words)) (part f (h.place + 2) 4) ∙ rw (length_part f (h.place + 2) 4 (omega (arith, whole)))

  pub header_written : (words n : ℕ) (octets d d1 d2 : List ℕ) (at here end : ℕ) → n ≡ sent_by h.word words → octets ≡ octets16 n → at + 6 ≤ length d
      → Wrote (fitting d at octets) at here d d1
      → Wrote (fitting d1 here (take (h.place + 2 + 4 - (h.place + 2)) (drop (h.place + 2) f))) here end d1 d2
      → Wrote (header_sent f h words) at end d d2
  header_written words n octets d d1 d2 at here end en eo room p q =
      let size : h.place + 2 + 4 - (h.place + 2) ≡ 4 = omega arith in
      let held : take (h.place + 2 + 4 - (h.place + 2)) (drop (h.place + 2) f) ≡ part f (h.place + 2) 4 = rw size in
      copied_on (copied p (rw en at eo) (omega arith)) q held (omega (arith, length_part f (h.place + 2) 4 (omega (arith, whole))))

-- another area than the one received, then the inner frame
module _ (area f : List ℕ) (h : Header) (d : List ℕ) (at : ℕ) (is : Ready f h) (room : at + length (rest_with area f h) ≤ length d) where
  pub with_written : (d1 d2 d3 inner : List ℕ) (here there words end : ℕ) → words ≡ length area / 4 → inner ≡ inner_of f h
      → Wrote (header_sent f h words) at here d d1 → Wrote (fitting d1 here area) here there d1 d2
      → Wrote (fitting d2 there inner) there end d2 d3 → Wrote (rest_with area f h) at end d d3
  with_written d1 d2 d3 inner here there words end ew ei p q r =
      let long = rest_long f h area in
      let six = header_long is (length area / 4) in
      let head = header_sent f h (length area / 4) in
      let two = copied_on (rw ew at p) q refl (omega (arith, room, long, six)) in
      rw (rest_is f h is area)
      (copied_on two r ei (omega (arith, room, long, six, length-drop (inner_start h) f, length-append head area)))

-- all behind the first word as it was received
module _ (f : List ℕ) (h : Header) (d : List ℕ) (at : ℕ) (is : Ready f h) (room : at + length (rest_with (area_of f h) f h) ≤ length d) where
  area_long : length (area_of f h) ≡ 4 * op_length h.word
  area_long = length_part f (h.place + 6) (4 * op_length h.word) is.area_whole

  pub whole_written : (octets d1 d2 : List ℕ) (here words n end : ℕ) → words ≡ op_length h.word → n ≡ sent_by h.word words → octets ≡ octets16 n
      → Wrote (fitting d at octets) at here d d1
      → Wrote (fitting d1 here (take (length f - (h.place + 2)) (drop (h.place + 2) f))) here end d1 d2 → Wrote (rest_with (area_of f h) f h) at end d d2
  whole_written octets d1 d2 here words n end ew en eo p q =
      let area = area_of f h in
      let four = part f (h.place + 2) 4 in
      let word = octets16 (sent_by h.word (length area / 4)) in
      let quarter : words ≡ length area / 4 = omega (arith, area_long, ew) in
      let next : h.place + 2 + 4 ≡ h.place + 6 = omega arith in
      let behind : four ++ (area ++ inner_of f h) ≡ drop (h.place + 2) f =
      rw (drop_part f (h.place + 6) (4 * op_length h.word)) (rw next at (drop_part f (h.place + 2) 4)) in
      let first : Wrote word at here d d1 = copied p (rw (en, quarter) at eo) (omega (arith, room, rest_long f h area)) in
      rw (rest_is f h is area, append_assoc (word ++ four) area (inner_of f h), append_assoc word four (area ++ inner_of f h), behind)
      (copied_on first q (lent_rest f (h.place + 2)) (omega (arith, room, length-drop (h.place + 2) f, rest_long f h area, area_long)))

pub header_room : (area f : List ℕ) (h : Header) (d : List ℕ) (at : ℕ) → at + length (rest_with area f h) ≤ length d → at + 6 ≤ length d
header_room area f h d at room = omega (arith, rest_long f h area)

pub ruleset forward_laws = (rules, whole, header_room, with_written, whole_written)

pub ruleset header_laws = (rules, whole, header_written)

module _ (own : Own) (ingress number code : ℕ) where
  abbrev reply : List ℕ
  reply = reply_octets own ingress number code

  -- the 28 octets: both MACs go over the end of the TRILL header, and the tag over theirs
  pub reply_written : (at i j end : ℕ) (d d1 d2 d3 d4 a b c : List ℕ) → at + 28 ≤ length d
      → a ≡ octets16 0x003F ++ octets16 ingress ++ octets16 own.nickname ++ octets16 0 → Wrote (fitting d at a) at i d d1
      → Wrote (octets48 all_egress_rbridges ++ octets64 own.word) (at + 6) (at + 6 + 14) d1 d2
      → b ≡ octets16 ethertype_tag ++ octets16 0x0001 ++ octets16 ethertype_channel ++ octets16 number → Wrote (fitting d2 (at + 18) b) (at + 18) j d2 d3
      → c ≡ octets16 (0xC000 + code) → Wrote (fitting d3 (at + 26) c) (at + 26) end d3 d4 → Wrote reply at end d d4
  reply_written at i j end d d1 d2 d3 d4 a b c room ea p q eb r ec s =
      let header = octets16 0x003F ++ octets16 ingress ++ octets16 own.nickname in
      let channel = octets16 ethertype_tag ++ octets16 0x0001 ++ octets16 ethertype_channel ++ octets16 number in
      let macs = octets48 all_egress_rbridges ++ octets48 (own.word / 65536) in
      let one : Wrote (header ++ octets16 0) at i d d1 = copied p ea (omega arith) in
      let two : Wrote (header ++ macs ++ octets16 own.word) at (at + 6 + 14) d d2 = over header (octets16 0) one refl q (omega arith) (omega arith) in
      let three : Wrote (header ++ macs ++ channel ++ []) at j d d3 =
      onto (header ++ macs) (octets16 own.word) two refl eb r (omega arith) (omega arith) in
      onto (header ++ macs ++ channel) [] three refl ec s (omega arith) (omega arith)

  pub head_room : (at : ℕ) (d d1 : List ℕ) → at + 28 ≤ length d → length d1 ≡ length d → at + 6 + 14 ≤ length d1
  head_room at d d1 h same = omega arith

  -- with what is written behind them
  module _ (at here end : ℕ) (d d1 d2 : List ℕ) (p : Wrote reply at here d d1) where
    pub error_written : (f : List ℕ) (n : ℕ) (body : List ℕ) → Wrote (fitting d1 here body) here end d1 d2 → body ≡ take 128 (drop n f) → at + 156 ≤ length d
        → Wrote (reply ++ take 128 (drop n f)) at end d d2
    error_written f n body q eb room = copied_on p q eb (omega (arith, length-take 128 (drop n f)))

    module _ (body : List ℕ) (room : at + 28 + length body ≤ length d) where
      pub echo_fits : length d1 ≡ length d → here + length body ≤ length d1
      echo_fits same = omega (arith, p.ends)

      pub echo_written : (clock : List ℕ) → Wrote (echo_body body clock) here end d1 d2 → Wrote (reply ++ echo_body body clock) at end d d2
      echo_written clock = joined p

pub ruleset write_head_laws = (rules, head_room, reply_written)

-- the head with the ERR value of a fault
pub error_at : (own : Own) (ingress protocol code err : ℕ) → err ≡ code → (at end : ℕ) (d d1 : List ℕ)
    → Wrote (reply_octets own ingress protocol err) at end d d1 → Wrote (reply_octets own ingress protocol code) at end d d1
error_at own ingress protocol code err e at end d d1 w = rw e at w

pub error_head : (at : ℕ) (d : List ℕ) → at + 156 ≤ length d → at + 28 ≤ length d
error_head at d h = omega arith

pub echo_head : (at : ℕ) (body d : List ℕ) → at + 28 + length body ≤ length d → at + 28 ≤ length d
echo_head at body d h = omega arith

-- at most 128 octets from a place on
module _ (f : List ℕ) (n : ℕ) where
  pub cited_all : length f - n < 128 → take (length f - n) (drop n f) ≡ take 128 (drop n f)
  cited_all h = lent_rest f n ∙ sym (take_all 128 (drop n f) (omega (arith, length-drop n f)))

  pub cited_most : take (n + 128 - n) (drop n f) ≡ take 128 (drop n f)
  cited_most = let e : n + 128 - n ≡ 128 = omega arith in rw e

pub ruleset write_error_laws = (rules, error_at, error_head, error_written)

pub ruleset write_echo_laws = (rules, echo_head, echo_fits, echo_written)

-- an echo body, answered: written in whole, then two of its parts over it
module _ (body clock : List ℕ) (long : 18 ≤ length body) (six : length clock ≡ 6) (at end here there a o : ℕ) (d d1 d2 d3 : List ℕ)
    (room : at + length body ≤ length d) where
  pub body_written : Wrote (fitting d at body) at end d d1 → Wrote (fitting d1 at (a ∷ [])) at here d1 d2
      → Wrote (fitting d2 (at + 12) clock)
      (at + 12) there d2 d3 → a ≡ 64 + o % 16 → o ≡ octet body 0 → Wrote (echo_body body clock) at end d d3
  unfolding echo_body
  body_written p q r ea eo =
      let whole = copied p refl room in
      let kept = wrote_long whole (omega (arith, whole.ends)) in
      let first = copied q refl (omega (arith, kept)) in
      let same = wrote_long first (omega (arith, first.ends, kept)) in
      let timed : Wrote clock (at + 12) there d2 d3 = copied r refl (omega (arith, same, kept)) in
      let is : a ≡ 64 + octet body 0 % 16 = rw eo at ea in
      let eleven = part body 1 11 in
      let one = length_part body 1 11 (omega arith) in
      let times = length_part body 12 6 (omega arith) in
      let rest : drop 1 body ≡ eleven ++ part body 12 6 ++ drop 18 body =
      sym (append_assoc eleven (part body 12 6) (drop 18 body) ∙ ap (λ (x : List ℕ). eleven ++ x) (drop_part body 12 6) ∙ drop_part body 1 11) in
      let over = put_inside d at [] (take 1 body) (drop 1 body) (a ∷ []) (omega arith) (length-take-le 1 body (omega arith)) in
      let head : d2 ≡ put d at (a ∷ (eleven ++ part body 12 6 ++ drop 18 body)) =
      first.after ∙ rw whole.after (rw (take-append-drop, add-zero) at over) ∙ ap (λ (x : List ℕ). put d at (a ∷ x)) rest in
      let tail = put_inside d at (a ∷ eleven) (part body 12 6) (drop 18 body) clock (omega arith) (times ∙ sym six) in
      let twelve : at + length (a ∷ eleven) ≡ at + 12 = omega (arith, one) in
      rw (← is)
      (record {
        ends = omega (arith, whole.ends, one, length-append (a ∷ eleven) clock, length-append (a ∷ eleven ++ clock) (drop 18 body), length-drop 18 body);
        after = timed.after ∙ rw head (rw twelve at tail);
      })

pub ruleset write_echo_body_laws = (rules, body_written)
