-- The replies that wait in their slots: what one more reply, and the first taken out, leave; and what is next. By the laws of buffers, and by induction
-- on the replies. One law for each need, for `search` to cite.
use Rattle.std.specs.Prelude.{Some}
use Rattle.std.specs.Prelude.{Option, Some, None}
use mathlib.Core.Path.{◌≡◌, refl, sym, ap, ◌∙◌}
use mathlib.Core.List.{List, [], ◌∷◌, ◌++◌, append_assoc, append-nil}
use mathlib.Core.Bool.{Bool, true, false, ◌&&◌}
use Prim.Native.Nat.{ℕ, suc, ◌+◌, ◌-◌, ◌*◌, ◌/◌, ◌%◌, ◌<◌, ◌≤◌}
use native.Mathlib.Nat.{lt_of_le_of_lt}
use native.Mathlib.Omega.{arith}
use borrow.Author.Rules.{rules}
use borrow.Author.Tests.{eq-eqb, ne_eqb, eqb-true}
use lib.Dec.{eqb}
use lib.ListN.{length, get_or, take, drop, length-take, length-drop, take-append-drop}
use lib.Seq.{length-take-le, take-append-le, drop-append-le, take-append_seam, drop_at}
use Rattle.rules.specs.Octets.{be16, put}
use Rattle.rules.specs.Campus.{switch_named, Kind, Waiting, writes_reply, in_campus, staying, first_waiting}
use Rattle.rules.proofs.OctetLaws.{length_put, put_front, take_put}
use Rattle.rules.proofs.{NextLaws.stays_none, NextLaws.stays_in, NextLaws.stays_left, TestLaws.by_test}
use Rattle.octets.specs.Copy.{Wrote, fitting}
use Rattle.octets.proofs.Ends.{copied, copied_on, wrote_long}
use Rattle.handler.specs.declared.answers.Answer.{Answer}
use Rattle.campus.specs
use specs.declared.switches.Switches.{Switches}
use specs.declared.running.At.{At}
use specs.{Switches.switch_at, Switches.all_of, Switches.number_of, Switches.IsSound, Steps.kind_by}
use specs.Queue.{waiting_by, slot_octets, Free, Slot, Held, Queue, Waits, replies_by, WaitReady, sent_to, onward_by, NextReady, Onwards, Leads, OnwardReady, Onwarded}
use Rattle.campus.proofs.StoresLaws.{lent, named_none, named_some}

-- a part of a buffer written at a place: before it, and there
module _ (d : List ℕ) (at : ℕ) (s : List ℕ) (room : at + length s ≤ length d) where
  put_long : length (take at d) ≡ at
  put_long = length-take-le at d (omega arith)

  before_put : (n m : ℕ) → n + m ≤ at → take m (drop n (put d at s)) ≡ take m (drop n d)
  unfolding put
  before_put n m h =
      let low : n ≤ length (take at d) = omega (arith, put_long) in
      let within : m ≤ length (drop n (take at d)) = rw length-drop (omega (arith, put_long)) in
      let front : (y : List ℕ) → take m (drop n (take at d ++ y)) ≡ take m (drop n (take at d)) = λ y. rw (drop-append-le, take-append-le) in
      rw append_assoc (front (s ++ drop (at + length s) d) ∙ sym (front (drop at d)) ∙ rw (take-append-drop at d))

  at_put : take (length s) (drop at (put d at s)) ≡ s
  unfolding put
  at_put = rw (append_assoc, drop_at (take at d) (s ++ drop (at + length s) d) at put_long) (take-append_seam s (drop (at + length s) d))

-- what a copy to the start of a buffer leaves there
pub copied_begins : {cur cur' s : List ℕ} {end : ℕ} → Wrote (fitting cur 0 s) 0 end cur cur' → length s ≤ length cur → take (length s) cur' ≡ s
copied_begins {cur} {s = s} c room = rw (copied c refl (omega arith)).after (take_put cur s)

pub ruleset front_laws = (rules, length-take-le)

-- two copies, the part behind first, are one
put_parts : (d s : List ℕ) (n : ℕ) → n ≤ length s → length s ≤ length d → put (put d n (drop n s)) 0 (take n s) ≡ put d 0 s
unfolding put
put_parts d s n from room =
    let whole : n + length (drop n s) ≡ length s = rw length-drop (omega arith) in
    let rest = drop (length s) d in
    let behind : drop n (put d n (drop n s)) ≡ drop n s ++ rest =
    rw (whole, append_assoc) (drop_at (take n d) (drop n s ++ rest) n (length-take-le n d (omega arith))) in
    put_front (put d n (drop n s)) (take n s)
    ∙ rw (length-take-le n s from, behind, ← append_assoc (take n s), take-append-drop) (sym (put_front d s))

pub back_copied : (cur f : List ℕ) {cur₁ cur₂ : List ℕ} {end₁ end₂ : ℕ} → Wrote (fitting cur₁ 0 (take 8 f)) 0 end₂ cur₁ cur₂
    → Wrote (fitting cur 8 (take (length f - 8) (drop 8 f))) 8 end₁ cur cur₁ → 8 ≤ length f → length f ≤ 2048 → length cur ≡ 2048
    → cur₂ ≡ put cur 0 f
back_copied cur f w₂ w₁ least most long =
    let piece : length (drop 8 f) + 8 ≡ length f = rw length-drop (omega arith) in
    let first : Wrote (drop 8 f) 8 _ cur _ = copied w₁ (lent f 8) (omega arith) in
    let same = wrote_long first (omega arith) in
    (copied w₂ refl (rw (length-take-le 8 f least) (omega arith))).after ∙ rw first.after (put_parts cur f 8 least (omega arith))

pub ruleset copy_back_laws = (rules, length-take-le, back_copied)

held_long : (sw : Switches) (waiting : List ℕ) (q : List Waiting) (head tail : ℕ) → Held sw waiting q head tail
    → head + length q ≡ tail
held_long sw waiting [] head tail e = omega arith
held_long sw waiting (x ∷ q) head tail e =
    let i = held_long sw waiting q (suc head) tail e.1 in
    omega arith

-- a slot filled
module _ (waiting : List ℕ) (tail i : ℕ) (f : List ℕ) (free : Free waiting tail) (short : length f ≤ 576) where
  abbrev after : List ℕ
  after = put waiting (tail * 579) (slot_octets i f)

  room : tail * 579 + length (slot_octets i f) ≤ length waiting
  room = omega arith

  pub slot_put : {high low here end : ℕ} {waiting₁ waiting₂ : List ℕ} → Wrote (fitting waiting₁ here f) here end waiting₁ waiting₂
      → Wrote (fitting waiting (tail * 579) (i ∷ high ∷ low ∷ [])) (tail * 579) here waiting waiting₁ → high ≡ length f / 256 % 256 → low ≡ length f % 256
      → waiting₂ ≡ put waiting (tail * 579) (slot_octets i f)
  slot_put {here = here} {waiting₁ = waiting₁} w₂ w₁ a b =
      let first : Wrote (i ∷ length f / 256 % 256 ∷ length f % 256 ∷ []) (tail * 579) here waiting waiting₁ = copied w₁ (rw (a, b)) (omega arith) in
      (copied_on first w₂ refl (omega arith)).after

  after_long : length (put waiting (tail * 579) (slot_octets i f)) ≡ length waiting
  after_long = length_put waiting (tail * 579) (slot_octets i f) room

  free_still : {h : ℕ} → Free waiting h → Free after h
  free_still a = omega (arith, after_long)

  -- one more reply, at the tail
  module _ (sw : Switches) where
    slot_still : {x : Waiting} {h : ℕ} → h < tail → Slot sw waiting x h → Slot sw after x h
    slot_still {x} {h} lt a =
        let free = free_still a.free in
        let size = length (slot_octets a.place x.frame) in
        let holds = before_put waiting (tail * 579) (slot_octets i f) room (h * 579) size (omega arith) ∙ a.holds in
        search

    module _ (towards : ℕ) (there : (i < length sw.starts.now) × (switch_named (all_of sw) towards ≡ Some (switch_at sw i))) where
      held_more : (q : List Waiting) (head : ℕ) → Held sw waiting q head tail
          → Held sw after (q ++ (waiting_by towards f ∷ [])) head (tail + 1)
      held_more [] head e =
          let holds = at_put waiting (tail * 579) (slot_octets i f) room in
          (rw e (search free_still), omega arith)
      held_more (x ∷ q) head e =
          let l = held_long sw waiting q (suc head) tail e.1 in
          (slot_still (omega arith) e.0, held_more q (suc head) e.1)

pub ruleset put_slot_laws = (rules, slot_put)

module _ (sw : Switches) (waiting : List ℕ) (tail : ℕ) where
  waits_not : (made : List Waiting) → staying (all_of sw) made ≡ [] → Waits sw waiting waiting tail tail made
  waits_not made e = record { held = λ head q a. rw (e, append-nil q) a; more = omega arith; same = refl }

  -- a reply to a switch of the campus waits, and any other has left
  module _ (towards : ℕ) (f : List ℕ) (found : Option ℕ) (is : found ≡ number_of sw towards) where
    pub wait_left : found ≡ None → Waits sw waiting waiting tail tail (waiting_by towards f ∷ [])
    wait_left e =
        waits_not (waiting_by towards f ∷ [])
        (stays_left (all_of sw) (waiting_by towards f) (rw (named_none sw.words.now sw.starts.now (length sw.starts.now) towards found is e)))

    module _ (i : ℕ) (e : found ≡ Some i) where
      pub wait_put : Free waiting tail → length f ≤ 576 → {waiting' : List ℕ} → waiting' ≡ put waiting (tail * 579) (slot_octets i f)
          → Waits sw waiting waiting' tail (tail + 1) (waiting_by towards f ∷ [])
      wait_put free short c =
          let there = named_some sw.words.now sw.starts.now (length sw.starts.now) towards found is i e in
          let stays = stays_in (all_of sw) (waiting_by towards f) (rw there.1) in
          rw c
          (record {
            held = λ head q a. rw stays (held_more waiting tail i f free short sw towards there q head a);
            more = omega arith;
            same = after_long waiting tail i f free short;
          })

      pub wait_few : IsSound sw → i < 16
      wait_few s = omega (arith, named_some sw.words.now sw.starts.now (length sw.starts.now) towards found is i e)

pub ruleset put_waiting_laws = (rules, wait_left, wait_put, wait_few)

-- the reply that a handling made
module _ {sw : Switches} {a : Answer} {out beside waiting : List ℕ} {tail : ℕ}
    (ready : WaitReady sw a out beside waiting tail) where
  module _ (writes : Bool) (is : writes ≡ writes_reply a.number) where
    module _ (e : writes ≡ true) where
      by_reply : replies_by a out beside ≡ waiting_by a.neighbour (take a.written out) ∷ []
      unfolding replies_by
      by_reply = rw (sym is ∙ e)

      pub reply_free : Free waiting tail
      reply_free = ready.free (rw by_reply (omega arith))

      pub reply_within : length out ≡ 2048 → a.written ≤ length out
      reply_within long = omega (arith, ready.short (sym is ∙ e))

      module _ (f : List ℕ) (held : f ≡ take a.written out) where
        pub reply_less : length f ≤ 576
        reply_less = rw (held, length-take) (omega (arith, ready.short (sym is ∙ e)))

        pub reply_waits : {waiting' : List ℕ} {r : ℕ} → Waits sw waiting waiting' tail r (waiting_by a.neighbour f ∷ [])
            → Waits sw waiting waiting' tail r (replies_by a out beside)
        reply_waits x = rw (by_reply, ← held) x

    module _ (e : writes ≡ false) where
      pub waits_none : a.beside ≡ 0 → Waits sw waiting waiting tail tail (replies_by a out beside)
      unfolding replies_by
      waits_none z = rw (sym is ∙ e, eq-eqb a.beside 0 z) (waits_not sw waiting tail [] (stays_none (all_of sw)))

      module _ (there : a.beside ≡ 0 → ⊥) where
        by_beside : replies_by a out beside ≡ waiting_by a.beside_neighbour (take a.beside beside) ∷ []
        unfolding replies_by
        by_beside = rw (sym is ∙ e, ne_eqb a.beside 0 there)

        pub beside_free : Free waiting tail
        beside_free = ready.free (rw by_beside (omega arith))

        pub beside_waits : {f waiting' : List ℕ} {r : ℕ} → f ≡ take a.beside beside
            → Waits sw waiting waiting' tail r (waiting_by a.beside_neighbour f ∷ [])
            → Waits sw waiting waiting' tail r (replies_by a out beside)
        beside_waits held x = rw (by_beside, ← held) x

  pub beside_less : {f : List ℕ} → f ≡ take a.beside beside → length f ≤ 576
  beside_less held = rw (held, length-take) (omega arith)

pub ruleset wait_laws = (rules, reply_free, reply_within, reply_less, reply_waits, waits_none, beside_free, beside_waits, beside_less)

-- what is read of a slot
record SlotRead (l : List ℕ) (i : ℕ) (f : List ℕ) : Type 0 where
  pub switch : get_or l 0 0 ≡ i
  pub size : be16 l 1 ≡ length f
  pub frame : take (length f) (drop 3 l) ≡ f

slot_read : (l : List ℕ) (i : ℕ) (f : List ℕ) → length f ≤ 576 → take (length (slot_octets i f)) l ≡ slot_octets i f → SlotRead l i f
slot_read [] i f short e = absurd (omega (arith, ap length e))
slot_read (a ∷ []) i f short e = absurd (omega (arith, ap length e))
slot_read (a ∷ b ∷ []) i f short e = absurd (omega (arith, ap length e))
slot_read (a ∷ b ∷ c ∷ l) i f short e =
    let x : b ≡ length f / 256 % 256 = cc in
    let y : c ≡ length f % 256 = cc in
    record { switch = cc; size = omega arith; frame = cc }

-- the reply that has waited longest
module _ {sw : Switches} {waiting : List ℕ} {head tail : ℕ} (queue : Queue sw waiting head tail) where
  pub leads_over : (cur : List ℕ) → head ≡ tail → Leads sw waiting head tail cur None first_waiting
  unfolding first_waiting
  leads_over cur e =
      record {
        leads = λ q.
            elim q as (λ (p : List Waiting). Held sw waiting p head tail → Onwards sw waiting cur tail None (first_waiting p)) [
              | [] ↦ λ h. tt
              | x ∷ l ↦ λ h. absurd (omega (arith, held_long sw waiting l (suc head) tail h.1))
            ];
      }

  module _ (waits : head ≡ tail → ⊥) where
    first_slot : (q : List Waiting) → Held sw waiting q head tail → Free waiting head × (be16 (drop (head * 579) waiting) 1 ≤ 576)
    first_slot [] h = absurd (waits h)
    first_slot (x ∷ q) h =
        let its = slot_read (drop (head * 579) waiting) h.0.place x.frame h.0.short h.0.holds in
        (h.0.free, omega (arith, its))

    first_is : Free waiting head × (be16 (drop (head * 579) waiting) 1 ≤ 576)
    first_is = first_slot queue.queue queue.held

    pub first_within : head * 579 ≤ length waiting
    first_within = omega (arith, first_is)

    pub first_next : head + 1 ≤ length waiting
    first_next = omega (arith, first_is)

    module _ (slot : List ℕ) (held : slot ≡ drop (head * 579) waiting) where
      slot_long : 579 ≤ length slot
      slot_long = rw (held, length-drop) (omega (arith, first_is))

      pub first_octet : 0 < length slot
      first_octet = omega (arith, slot_long)

      module _ (b : ℕ) (read : b ≡ be16 slot 1) (size : ℕ) (wide : size ≡ b) where
        is : size ≡ be16 slot 1
        is = wide ∙ read

        size_small : size ≤ 576
        size_small = rw (is, held) first_is.1

        pub first_ends : 3 + size ≤ length slot
        first_ends = omega (arith, slot_long, size_small)

        pub first_part : 3 + size - 3 ≡ length (take (3 + size - 3) (drop 3 slot))
        first_part = sym (length-take-le (3 + size - 3) (drop 3 slot) (rw length-drop (omega (arith, first_ends))))

        pub leads_first : (i : ℕ) → i ≡ get_or slot 0 0 → (cur cur' : List ℕ) (end : ℕ)
            → Wrote (fitting cur 0 (take (3 + size - 3) (drop 3 slot))) 0 end cur cur' → length cur ≡ 2048
            → Leads sw waiting head tail cur' (Some (record { switch = i; replied = true; size = size; head = head + 1; tail = tail })) first_waiting
        unfolding first_waiting
        leads_first i there cur cur' end c long =
            let less : 3 + size - 3 ≡ size = omega arith in
            let piece : length (take size (drop 3 slot)) ≡ size = sym (rw less at first_part) in
            let begins = copied_begins (rw less at c) (omega (arith, size_small)) in
            let one : head + 1 ≡ suc head = omega arith in
            let onward : Option At = Some (record { switch = i; replied = true; size = size; head = head + 1; tail = tail }) in
            record {
              leads = λ q.
                  elim q as (λ (p : List Waiting). Held sw waiting p head tail → Onwards sw waiting cur' tail onward (first_waiting p)) [
                    | [] ↦ λ h. absurd (waits h)
                    | x ∷ l ↦ λ h.
                        let its = slot_read (drop (head * 579) waiting) h.0.place x.frame h.0.short h.0.holds in
                        let at : i ≡ h.0.place = there ∙ rw held its.switch in
                        let its_size : size ≡ length x.frame = is ∙ rw held its.size in
                        let is_frame : take size cur' ≡ x.frame = (rw piece at begins) ∙ rw (its_size, held) its.frame in
                        let small : size ≤ 2048 = omega (arith, size_small) in
                        rw (at, one) (search)
                  ];
            }

pub ruleset first_waiting_laws =
    (rules, lent, leads_over, first_within, lt_of_le_of_lt, first_next, first_octet, first_ends, first_part, leads_first)

-- the switch that a forwarded frame goes to
module _ (sw : Switches) (a : Answer) where
  module _ (found : Option ℕ) (is : found ≡ sent_to sw a) where
    sent_unknown : found ≡ None → (eqb a.number 50 && in_campus (all_of sw) a.neighbour) ≡ false
    unfolding sent_to
    sent_unknown e =
        by_test (eqb a.number 50)
        (λ t. rw (t, named_none sw.words.now sw.starts.now (length sw.starts.now) a.neighbour (number_of sw a.neighbour) refl (rw (is, t) at e)))
        (λ t. rw t)

    sent_at : (i : ℕ) → found ≡ Some i
        → (eqb a.number 50 ≡ true) × ((i < length sw.starts.now) × (switch_named (all_of sw) a.neighbour ≡ Some (switch_at sw i)))
    unfolding sent_to
    sent_at i e =
        let fifty : eqb a.number 50 ≡ true = by_test (eqb a.number 50) (λ t. t) (λ t. cc (rw (is, t) at e)) in
        (fifty, named_some sw.words.now sw.starts.now (length sw.starts.now) a.neighbour (number_of sw a.neighbour) refl i (rw (is, fifty) at e))

    -- the frame that was forwarded, if it stays; else that reply
    module _ (waiting : List ℕ) (head tail : ℕ) (out : List ℕ) where
      pub next_waiting : found ≡ None → (kind : Kind) {cur : List ℕ} {r : Option At} → Leads sw waiting head tail cur r first_waiting
          → Leads sw waiting head tail cur r (onward_by (all_of sw) kind a out)
      unfolding onward_by
      next_waiting e kind first = record { leads = λ q h. rw (sent_unknown e) (first.leads q h) }

      pub next_on : NextReady sw a waiting head tail → {i : ℕ} (replied : Bool) {f : List ℕ} → found ≡ Some i → f ≡ take a.written out
          → length out ≡ 2048 → (cur : List ℕ) {cur' : List ℕ} → cur' ≡ put cur 0 f
          → Leads sw waiting head tail cur' (Some (record { switch = i; replied = replied; size = a.written; head = head; tail = tail }))
          (onward_by (all_of sw) (kind_by replied) a out)
      unfolding onward_by
      next_on ready {i} replied {f} e held long cur {cur'} c =
          let s = sent_at i e in
          let stays : in_campus (all_of sw) a.neighbour ≡ true = rw s.1.1 in
          let size : length f ≡ a.written = rw held (length-take-le a.written out (omega arith)) in
          let begins : take a.written cur' ≡ f = rw (c, ← size) (take_put cur f) in
          let is_frame = begins ∙ held in
          record { leads = λ q h. rw (s.0, stays) (search) }

      -- what is copied back has a link header, and fits
      module _ (f : List ℕ) (held : f ≡ take a.written out) (long : length out ≡ 2048) where
        pub next_least : NextReady sw a waiting head tail → {i : ℕ} → found ≡ Some i → 8 ≤ length f
        next_least ready {i} e = rw (held, length-take) (omega (arith, ready.linked (eqb-true a.number 50 (sent_at i e).0)))

        pub next_most : length f ≤ 2048
        next_most = rw (held, length-take) (omega arith)

pub ruleset next_of_laws = (rules, next_waiting, next_on, next_least, next_most)

-- the reply put in, and what is next
module _ {sw : Switches} {a : Answer} {at : At} {out beside waiting waiting' : List ℕ} {tail : ℕ}
    (put_in : Waits sw waiting waiting' at.tail tail (replies_by a out beside)) where
  pub onward_next : OnwardReady sw a at out beside waiting → NextReady sw a waiting' at.head tail
  onward_next ready =
      let queue : Queue sw waiting' at.head tail =
      record {
        queue = ready.queue.queue ++ staying (all_of sw) (replies_by a out beside);
        held = put_in.held at.head ready.queue.queue ready.queue.held;
      } in
      search

  pub onward_done : {cur' : List ℕ} {r : Option At}
      → Leads sw waiting' at.head tail cur' r (onward_by (all_of sw) (kind_by at.replied) a out)
      → Onwarded sw a at out beside waiting waiting' cur' r
  onward_done led =
      record { tail = tail; more = put_in.more; leads = λ q x. led.leads _ (put_in.held at.head q x); same = put_in.same }

pub ruleset onward_laws = (rules, onward_next, onward_done)
