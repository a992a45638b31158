-- What is forwarded and what is replied as the code writes it: what is ready gives what each call asks, and each way out is the answer and the
-- buffer that the rules define. One law for each need, over what the calls before it ensure, for `search` to cite.
use Rattle.std.specs.Prelude.{Option, Some, None, Ok}
use Rattle.rules.specs as rules
use rules.Header.{read_frame, op_length, inner_start, area_of, inner_of}
use rules.declared.{NextHop.NextHop, Header.Header}
use Rattle.octets.specs.Copy.{Wrote}
use Rattle.octets.proofs.Ends.{joined}
use Rattle.handler.proofs.Stages.{lent_rest, link_sized, rest_long, cited_all, cited_most}
use mathlib.Core.Path.{◌≡◌, ◌∙◌, refl, sym}
use mathlib.Core.List.{List, ◌++◌, []}
use Prim.Native.Nat.{ℕ, ◌+◌, ◌≤◌, ◌-◌, ◌*◌, ◌<◌}
use native.Mathlib.Omega.{arith}
use native.Mathlib.Nat.{zero-add}
use borrow.Author.Rules.{rules}
use lib.ListN.{length, length-append, length-take, take, drop, length-drop}
use rules.{Octets.octet, Settings.Ways, Link.link, Extension.area_sent}
use rules.Channel.{error_body, echo_body, error_reply, echo_reply, reply_rest, reply_inner, body_of, return_path, silenced}
use Rattle.rules.proofs as rule_laws
use rule_laws.FrameLaws.{link_most, frame_read, link_length_lem, length_link}
use rule_laws.{ReplyLaws.echo_body_length, OptionLaws.stripped_word}
use rule_laws.OctetLaws.{put_none, length_part}
use Rattle.handler.specs
use specs.declared.way.{Own.Own, Lookup.Lookup}
use specs.declared.answers.Answer.{Answer}
use specs.Shapes.{Owns, Sends, reply_octets, Replied, answer_of, wrote_by, link_size, rest_with, ways_by, Ready, Done}
use mathlib.Core.Bool.{Bool, true, false, not, ◌&&◌}
use lib.Seq.{drop-drop}
use rules.Handling.{forwarded, forwarded_rest, onward, faulted, echoed}
use rule_laws.TestLaws.{by_test}
use rule_laws.HandlingLaws.{onward_long, onward_sent, faulted_silent, faulted_none, faulted_over, echoed_mode, echoed_none, echoed_over}
use Rattle.rules.specs.Answer as A

-- a frame that was read
module _ (f : List ℕ) (h : Header) (is : read_frame f ≡ Ok h) where
  pub frame_near : h.place ≤ 18
  frame_near = omega (arith, (frame_read f h is).its_place, link_length_lem f)

  pub frame_from : 14 ≤ h.place
  frame_from = (frame_read f h is).from

  pub frame_place : h.place ≤ length f
  frame_place = omega (arith, (frame_read f h is).whole)

pub ruleset ready = (frame_near, frame_from, frame_place)

pub ruleset cited_laws = (rules, ready, cited_all, cited_most)

-- the parts of a frame that the code holds
module _ (f : List ℕ) (h : Header) (start : ℕ) (i : start ≡ inner_start h) where
  pub inner_held : take (length f - start) (drop start f) ≡ inner_of f h
  inner_held = rw i (lent_rest f (inner_start h))

  pub area_held : take (start - (h.place + 6)) (drop (h.place + 6) f) ≡ area_of f h
  area_held = let n : start - (h.place + 6) ≡ 4 * op_length h.word = omega arith in rw n

pub ruleset frame_laws = (rules, ready, inner_held, area_held)

-- the body of a message in it, and how long it is
module _ (f : List ℕ) (h : Header) (inner : List ℕ) (held : inner ≡ inner_of f h) where
  pub body_held : take (length inner - 22) (drop 22 inner) ≡ body_of (inner_of f h)
  body_held = rw held (lent_rest (inner_of f h) 22)

  pub body_within : 18 ≤ length (body_of (inner_of f h)) → 22 ≤ length inner
  body_within b = rw held (omega (arith, length-drop 22 (inner_of f h)))

pub held_least : (k : ℕ) (lent whole : List ℕ) → k ≤ length whole → lent ≡ whole → k ≤ length lent
held_least k lent whole h held = rw held h

pub held_most : (k : ℕ) (lent whole : List ℕ) → length whole ≤ k → lent ≡ whole → length lent ≤ k
held_most k lent whole h held = rw held h

-- the answers with nothing written
module _ {a : A.Handled} {r : Answer} {out : List ℕ} where
  pub done_unwritten : (n start size : ℕ) → a ≡ A.delivered n start size → r ≡ answer_of (A.delivered n start size) → Done a r out out
  done_unwritten n start size e is = rw e (record { answer = is; after = sym (put_none out 0); alone = refl })

  pub done_dropped : (n : ℕ) → a ≡ A.dropped n → r ≡ answer_of (A.dropped n) → Done a r out out
  done_dropped n = done_unwritten n 0 0

  -- and those with octets written
  done_wrote : (number via n : ℕ) {octets out1 : List ℕ} → a ≡ A.wrote number octets via → Wrote octets 0 n out out1 → r ≡ wrote_by number n via
      → Done a r out out1
  done_wrote number via n e w is = rw e (record { answer = is ∙ rw (w.ends, zero-add); after = w.after; alone = refl })

-- by a next hop
pub by_hop : {X : Type 0} (R : Option NextHop) → (R ≡ None → X) → ((r : NextHop) → R ≡ Some r → X) → X
by_hop None lost found = lost refl
by_hop (Some r) lost found = found r refl

-- the next hop back
abbrev back : Ways → Header → Option NextHop
back S h = return_path S h.ingress

pub link_room : (r : NextHop) (out : List ℕ) → 18 ≤ length out → link_size r.vlan ≤ length out
link_room r out h = omega (arith, link_sized r.vlan)

pub room_18 : (out : List ℕ) → 2048 ≤ length out → 18 ≤ length out
room_18 out h = omega arith

-- 29 and 50, with the area as it is sent
pub sends_area : {S : Ways} {f : List ℕ} {h : Header} {area : List ℕ} → Sends S f h area → area_sent S (area_of f h) ≡ area
sends_area x = x.goes

pub sends_few : {S : Ways} {f : List ℕ} {h : Header} {area : List ℕ} → Sends S f h area → length area ≤ 124
sends_few x = x.few

module _ (S : Ways) (r : NextHop) (f : List ℕ) (h : Header) (out area : List ℕ) (goes : area_sent S (area_of f h) ≡ area) where
  forwards : link S r ++ rest_with area f h ≡ forwarded S r f h
  unfolding forwarded forwarded_rest rest_with
  forwards = rw goes

  forwards_long : length (forwarded S r f h) ≡ link_size r.vlan + length (rest_with area f h)
  forwards_long = cc (forwards, length-append (link S r) (rest_with area f h), length_link S r)

  pub onward_over : (a : Answer) (k size : ℕ) → a ≡ answer_of (A.dropped 29) → 2048 < k + size → k ≡ link_size r.vlan → size ≡ length (rest_with area f h)
      → Done (onward S r f h [] 0) a out out
  onward_over a k size is n links rests = done_dropped 29 (onward_long S f h r [] 0 (omega (arith, forwards_long))) is

  module _ (k size : ℕ) (n : k + size ≤ 2048) (links : k ≡ link_size r.vlan) (rests : size ≡ length (rest_with area f h)) (at : ℕ) (out1 : List ℕ)
      (linked : Wrote (link S r) 0 at out out1) where
    module _ (end : ℕ) (out2 : List ℕ) (w : Wrote (rest_with area f h) at end out1 out2) where
      pub onward_short : end ≤ 2048
      onward_short = omega (arith, length_link S r)

      pub onward_done : (a : Answer) → a ≡ wrote_by 50 end r.neighbour → Done (onward S r f h [] 0) a out out2
      onward_done a = done_wrote 50 r.neighbour end (onward_sent S f h r [] 0 (omega (arith, forwards_long))) (rw forwards at (joined linked w))

    pub onward_fits : length out1 ≡ length out → 2048 ≤ length out → at + length (rest_with area f h) ≤ length out1
    onward_fits same roomy = omega (arith, length_link S r)

pub ruleset onward_laws = (rules, link_room, room_18, onward_over, onward_short, onward_done, onward_fits)

-- how long it is
module _ {f : List ℕ} {h : Header} (ready : Ready f h) where
  pub area_words : length (area_of f h) ≡ 4 * op_length h.word
  area_words = length_part f (h.place + 6) (4 * op_length h.word) ready.area_whole

  pub area_few : length (area_of f h) ≤ 124
  area_few = omega (arith, area_words)

  pub whole_long : length f - h.place ≡ length (rest_with (area_of f h) f h)
  whole_long = omega (arith, rest_long f h (area_of f h), area_words)

  pub whole_least : h.place ≤ length f
  whole_least = frame_place f h ready.read

  pub whole_add : (r : NextHop) (k : ℕ) → k ≡ link_size r.vlan → k + (length f - h.place) < 18446744073709551616
  whole_add r k e = omega (arith, link_sized r.vlan)

pub ruleset send_whole_laws = (onward_laws, whole_least, whole_long, whole_add)

-- with another area
module _ (f : List ℕ) (h : Header) (area inner : List ℕ) (held : inner ≡ inner_of f h) where
  pub with_long : 6 + length area + length inner ≡ length (rest_with area f h)
  with_long = rw held (omega (arith, rest_long f h area, length-drop (inner_start h) f))

  module _ (is : Ready f h) (S : Ways) (few : Sends S f h area) where
    long : length inner ≤ 2048
    long = rw held (omega (arith, is.short, length-drop (inner_start h) f))

    pub with_size : 6 + length area + length inner < 18446744073709551616
    with_size = omega (arith, few.few, long)

    pub with_sum : (r : NextHop) (k : ℕ) → k ≡ link_size r.vlan → k + (6 + length area + length inner) < 18446744073709551616
    with_sum r k e = omega (arith, link_sized r.vlan, few.few, long)

pub ruleset send_with_laws = (onward_laws, sends_area, sends_few, with_long, with_size, with_sum)

-- a frame without an area goes on as it is
module _ (S : Ways) {f : List ℕ} {h : Header} (is : Ready f h) (none : op_length h.word ≡ 0) where
  pub plain_sent : area_sent S (area_of f h) ≡ area_of f h
  unfolding area_sent
  plain_sent =
      let word : length (area_of f h) ≤ 4 = omega (arith, area_words is) in
      by_test (S.strip && not S.rfc7179) (λ u. rw (u, stripped_word (area_of f h) word)) (λ u. rw u)

-- a reply is short
pub reply_short : {reply out out1 : List ℕ} {n : ℕ} → Replied reply n out out1 → n ≤ 2048
reply_short p = omega (arith, p.few)

-- 25 and 53
module _ (S : Ways) (f : List ℕ) (h : Header) (code : ℕ) (inner : List ℕ) (held : inner ≡ inner_of f h) (quiet : Bool) (q : quiet ≡ silenced code inner)
    (a : Answer) (out : List ℕ) where
  pub fault_quiet : a ≡ answer_of (A.dropped 25) → quiet ≡ true → Done (faulted S f h code) a out out
  fault_quiet is t = done_dropped 25 (faulted_silent S f h code (cc)) is

  module _ (t : quiet ≡ false) (R : Option NextHop) (asks : R ≡ back S h) where
    pub fault_lost : a ≡ answer_of (A.dropped 25) → R ≡ None → Done (faulted S f h code) a out out
    fault_lost is e = done_dropped 25 (faulted_none S f h code (cc) (cc)) is

    pub fault_sent : (hop : NextHop) → R ≡ Some hop → (n : ℕ) (out1 : List ℕ) → Replied (error_reply S hop f h code) n out out1
        → a ≡ wrote_by 53 n hop.neighbour → Done (faulted S f h code) a out out1
    fault_sent hop e n out1 p = done_wrote 53 hop.neighbour n (faulted_over S f h code (cc) hop (cc)) p.wrote

pub ruleset error_answer_laws = (rules, reply_short, fault_quiet, fault_lost, fault_sent)

-- 28 and 54
module _ (S : Ways) (f : List ℕ) (h : Header) (clock body : List ℕ) (held : body ≡ body_of (inner_of f h)) (mode : ℕ) (m : mode ≡ octet body 4)
    (a : Answer) (out : List ℕ) where
  pub echo_other : a ≡ answer_of (A.dropped 28) → (mode ≡ 2 → ⊥) → Done (echoed S clock f h) a out out
  echo_other is o = done_dropped 28 (echoed_mode S f h clock (λ e. o (rw held at m ∙ e))) is

  module _ (o : mode ≡ 2) (R : Option NextHop) (asks : R ≡ back S h) where
    pub echo_lost : a ≡ answer_of (A.dropped 28) → R ≡ None → Done (echoed S clock f h) a out out
    echo_lost is e = done_dropped 28 (echoed_none S f h clock (cc) (cc)) is

    pub echo_sent : (hop : NextHop) → R ≡ Some hop → (n : ℕ) (out1 : List ℕ) → Replied (echo_reply S hop h clock body) n out out1
        → a ≡ wrote_by 54 n hop.neighbour → Done (echoed S clock f h) a out out1
    echo_sent hop e n out1 p = done_wrote 54 hop.neighbour n (echoed_over S f h clock (cc) hop (cc)) (rw held at p.wrote)

pub ruleset echo_answer_laws = (rules, body_held, body_within, held_least, held_most, reply_short, echo_other, echo_lost, echo_sent)

-- the two replies towards a next hop: what is written behind the link header makes one write
module _ (S : Ways) (r : NextHop) (out : List ℕ) (roomy : 576 ≤ length out) where
  module _ (out1 : List ℕ) (k : ℕ) (linked : Wrote (link S r) 0 k out out1) where
    module _ (own : Own) (owned : Owns own S) (h : Header) (end : ℕ) (out2 : List ℕ) where
      reply_made : (number code : ℕ) (body octets : List ℕ) → link S r ++ (reply_octets own h.ingress number code ++ body) ≡ octets → length body ≤ 530
          → Wrote (reply_octets own h.ingress number code ++ body) k end out1 out2 → Replied octets end out out2
      reply_made number code body octets is few w =
          let all = joined linked w in
          let size = length-append (reply_octets own h.ingress number code) body in
          rw (← is) (record { wrote = all; few = omega (arith, link_most S r, all.ends) })

      pub error_made : (f : List ℕ) (code : ℕ) → Wrote (reply_octets own h.ingress 0x001 code ++ error_body f h) k end out1 out2
          → Replied (error_reply S r f h code) end out out2
      unfolding error_reply reply_rest reply_inner
      error_made f code = reply_made 0x001 code (error_body f h) (error_reply S r f h code) (rw (owned.named, owned.addressed)) (rw length-take (omega arith))

      pub echo_made : (clock body : List ℕ) → length clock ≡ 6 → 18 ≤ length body → length body ≤ 530
          → Wrote (reply_octets own h.ingress 0xFF8 0 ++ echo_body body clock) k end out1 out2 → Replied (echo_reply S r h clock body) end out out2
      unfolding echo_reply reply_rest reply_inner
      echo_made clock body six enough few =
          reply_made 0xFF8 0 (echo_body body clock) (echo_reply S r h clock body) (rw (owned.named, owned.addressed))
          (rw (echo_body_length body clock enough six) few)

    module _ (same : length out1 ≡ length out) where
      pub error_room : k + 156 ≤ length out1
      error_room = omega (arith, link_most S r)

      pub echo_room : (body : List ℕ) → length body ≤ 530 → k + 28 + length body ≤ length out1
      echo_room body few = omega (arith, link_most S r)

pub reply_18 : (out : List ℕ) → 576 ≤ length out → 18 ≤ length out
reply_18 out h = omega arith

pub lookup_owns : (t : Lookup) → Owns t.own (ways_by t)
lookup_owns t = record { named = refl; addressed = refl }

pub ruleset reply_laws = (rules, ready, link_room, reply_18, lookup_owns, error_made, echo_made, error_room, echo_room)
