-- Reading back what is written, whatever the link header's length: a frame of a link header, a TRILL header and a rest reads as these,
-- so a forwarded frame keeps egress, ingress and inner frame, and its hop count is one less. By computation and laws of parts.
--
use Rattle.std.specs.Prelude.{Result, Ok, Err}
use mathlib.Core.Path.{◌≡◌, refl, sym, ◌∙◌}
use mathlib.Core.List.{List, ◌++◌}
use mathlib.Core.Bool.{Bool, true, false, not, ◌&&◌, cond}
use Prim.Native.Nat.{ℕ, suc, ◌+◌, ◌-◌, ◌*◌, ◌/◌, ◌%◌, ◌<◌, ◌≤◌}
use native.Mathlib.Omega.{arith}
use native.Mathlib.Nat.{le_refl}
use borrow.Author.Rules.{rules}
use borrow.Author.Tests.{ltb-false, leb-true, leb-false, eqb-true, eqb-false, not-true, not-false}
use lib.Dec.{ltb, eqb}
use lib.ListN.{length, drop, length-append}
use lib.Seq.{take_at, drop_at, drop-drop, drop-append-add}
use Rattle.rules.specs
use specs.Octets.{be16, be48, octets16}
use specs.{Settings.Ways, Options.WellFormed, Options.draft_read, Extension.area_read, Extension.area_sent, Handling.forwarded_rest}
use specs.Link.{link_length, link_ethertype, outer_tag, link, ethertype_tag, ethertype_trill}
use specs.Header.{version, reserved, multi, op_length, hop_count, header_word, read_frame, inner_start, area_of, inner_of, header_refusal, we_are_egress}
use specs.declared.{NextHop.NextHop, Header.Header, Number.Number}
use specs.declared.Number.TheVariants.{FrameShort, NotTrill}
use specs.Answer.{number_of}
use Rattle.rules.proofs
use proofs.TestLaws.{tests, by_test, either, IfNone, and_right, or_left, or_right}
use proofs.OctetLaws.{be16_before, be16_after, be16_at, length_part}
use proofs.OptionLaws.{stripped_shorter, stripped_words}

-- the header word, split and rebuilt
pub record Split (w v r m op hop : ℕ) : Type 0 where
  pub fits : w < 65536
  pub its_version : version w ≡ v
  pub its_reserved : reserved w ≡ r
  pub its_multi : multi w ≡ m
  pub its_op : op_length w ≡ op
  pub its_hop : hop_count w ≡ hop

pub word_split : (v r m op hop : ℕ) → v < 4 → r < 4 → m < 2 → op < 32 → hop < 64 → Split (header_word v r m op hop) v r m op hop
word_split v r m op hop hv hr hm ho hh = omega arith

-- (in steps, since the remainders of one number are too many unknowns at once)
pub word_rebuilt : (w : ℕ) → w < 65536 → header_word (version w) (reserved w) (multi w) (op_length w) (hop_count w) ≡ w
word_rebuilt w h =
    let e1 : w / 64 * 64 + hop_count w ≡ w = omega arith in
    let e2 : w / 2048 * 32 + op_length w ≡ w / 64 = omega arith in
    let e3 : w / 4096 * 2 + multi w ≡ w / 2048 = omega arith in
    let e4 : w / 16384 * 4 + reserved w ≡ w / 4096 = omega arith in
    let e5 : version w ≡ w / 16384 = omega arith in
    omega arith

pub link_length_lem : (f : List ℕ) → (14 ≤ link_length f) × (link_length f ≤ 18)
unfolding link_length
link_length_lem f = by_test (eqb (be16 f 12) ethertype_tag) (λ e. rw e (omega arith)) (λ e. rw e (omega arith))

-- the link header's length as the code reads it
module _ (f : List ℕ) (e : ℕ) (is : e ≡ be16 f 12) where
  pub length_tagged : e ≡ ethertype_tag → 18 ≡ link_length f
  unfolding link_length
  length_tagged t = rw (← is, t)

  pub length_plain : (e ≡ ethertype_tag → ⊥) → 14 ≡ link_length f
  unfolding link_length
  length_plain n = simp (← is, tests)

pub ruleset link_length_laws = (rules, length_tagged, length_plain)

-- a link header of TRILL, with a tag or without
pub record IsLink (l : List ℕ) : Type 0 where
  pub long : length l ≡ link_length l
  pub trill : link_ethertype l ≡ ethertype_trill

pub link_written : (S : Ways) (r : NextHop) → IsLink (link S r)
unfolding link outer_tag link_length
link_written S r = by_test (eqb r.vlan 0) (λ e. rw e (search)) (λ e. rw e (search))

pub length_link : (S : Ways) (r : NextHop) → length (link S r) ≡ cond (eqb r.vlan 0) 14 18
unfolding link outer_tag
length_link S r = by_test (eqb r.vlan 0) (λ e. rw e) (λ e. rw e)

pub link_most : (S : Ways) (r : NextHop) → length (link S r) ≤ 18
link_most S r = omega (arith, (link_written S r).long, link_length_lem (link S r))

module _ (l t : List ℕ) (is : IsLink l) where
  pub link_kept : link_length (l ++ t) ≡ link_length l
  unfolding link_length
  link_kept = rw (be16_before l t 12 (omega (arith, is.long, link_length_lem l)))

  ethertype_kept : link_ethertype (l ++ t) ≡ ethertype_trill
  ethertype_kept = rw (link_kept, be16_before l t (link_length l - 2) (omega (arith, is.long, link_length_lem l))) is.trill

-- reading a frame as the code does, by outcome: n is the link header's length, e the Ethertype at its end
module _ (f : List ℕ) where
  pub read_short : length f < 14 → Err FrameShort ≡ read_frame f
  unfolding read_frame
  read_short h = simp tests

  module _ (n : ℕ) (is : n ≡ link_length f) where
    pub read_from : 2 ≤ n
    read_from = omega (arith, link_length_lem f)

    pub read_near : n + 6 < 18446744073709551616
    read_near = omega (arith, link_length_lem f)

    module _ (a : 14 ≤ length f) where
      pub read_tag_short : length f < n → Err FrameShort ≡ read_frame f
      unfolding read_frame
      read_tag_short h = simp (tests, ← is)

      module _ (b : n ≤ length f) (e : ℕ) where
        pub read_other : e ≡ be16 f (n - 2) → (e ≡ ethertype_trill → ⊥) → Err NotTrill ≡ read_frame f
        unfolding read_frame
        read_other its h = simp (tests, ← is, ← its)

        module _ (c : e ≡ ethertype_trill) (its : e ≡ be16 f (n - 2)) where
          pub read_cut : length f < n + 6 → Err FrameShort ≡ read_frame f
          unfolding read_frame
          read_cut h = simp (tests, ← is, ← its, c)

          pub read_trill : (w g i : ℕ) → n + 6 ≤ length f → w ≡ be16 f n → g ≡ be16 f (n + 2) → i ≡ be16 f (n + 4)
              → Ok (record { place = n; word = w; egress = g; ingress = i }) ≡ read_frame f
          unfolding read_frame
          read_trill w g i h ew eg ei = simp (tests, ← is, ← its, c, ew, eg, ei)

pub ruleset read_frame_laws = (rules, read_from, read_near, read_short, read_tag_short, read_other, read_cut, read_trill)

-- what is known of a frame that was read
pub record IsTrill (f : List ℕ) (h : Header) : Type 0 where
  pub its_place : h.place ≡ link_length f
  pub from : 14 ≤ h.place
  pub whole : h.place + 6 ≤ length f
  pub word_fits : h.word < 65536
  pub egress_fits : h.egress < 65536
  pub ingress_fits : h.ingress < 65536
  pub its_egress : h.egress ≡ be16 f (h.place + 2)
  pub its_ingress : h.ingress ≡ be16 f (h.place + 4)

-- whatever is read: a header, or 10 or 11
abbrev pub FrameFound : List ℕ → Result Header Number → Type 0
FrameFound f (Ok h) = IsTrill f h
FrameFound f (Err n) = (10 ≤ number_of n) × (number_of n ≤ 11)

pub frame_found : (f : List ℕ) → FrameFound f (read_frame f)
unfolding read_frame
frame_found f = search (either (FrameFound f), leb-true, trill) depth 8
  where
    trill : ltb (length f) (link_length f + 6) ≡ false
        → IsTrill f (record { place = link_length f; word = be16 f (link_length f); egress = be16 f (link_length f + 2); ingress = be16 f (link_length f + 4) })
    trill e = omega (arith, link_length_lem f, ltb-false (length f) (link_length f + 6) e)

pub frame_read : (f : List ℕ) (h : Header) → read_frame f ≡ Ok h → IsTrill f h
frame_read f h e = rw e at (frame_found f)

-- a frame of a link header, a TRILL header of a word and two nicknames, and a rest
abbrev pub with_header : ℕ → ℕ → ℕ → List ℕ → List ℕ
with_header w e i rest = octets16 w ++ octets16 e ++ octets16 i ++ rest

module _ {l : List ℕ} (is : IsLink l) {w e i : ℕ} (hw : w < 65536) (he : e < 65536) (hi : i < 65536) where
  pub read_with_header : (rest : List ℕ) → read_frame (l ++ with_header w e i rest) ≡ Ok (record { place = length l; word = w; egress = e; ingress = i })
  read_with_header rest =
      let behind = with_header w e i rest in
      let f = l ++ behind in
      let place = is.long ∙ sym (link_kept l behind is) in
      let long : length f ≡ length l + (6 + length rest) = length-append l behind ∙ omega arith in
      let enough : 14 ≤ length l = omega (arith, is.long, link_length_lem l) in
      let trill : ethertype_trill ≡ be16 f (length l - 2) = rw place (sym (ethertype_kept l behind is)) in
      sym
      (read_trill f (length l) place (omega arith) (omega arith) ethertype_trill refl trill w e i (omega arith)
      (rw (be16_at l behind) (omega arith)) (rw (be16_after l behind 2) (omega arith)) (rw (be16_after l behind 4) (omega arith)))

-- options area and inner frame of such a frame
module _ (l : List ℕ) (h : Header) (area inner : List ℕ) (place : h.place ≡ length l) (whole : length area ≡ 4 * op_length h.word) where
  abbrev pub framed : List ℕ
  framed = l ++ with_header h.word h.egress h.ingress (area ++ inner)

  behind : drop (length l + 6) framed ≡ area ++ inner
  behind = drop-append-add l (with_header h.word h.egress h.ingress (area ++ inner)) 6

  pub area_with_header : area_of framed h ≡ area
  area_with_header = rw (place, behind) (take_at area inner (4 * op_length h.word) whole)

  pub inner_with_header : inner_of framed h ≡ inner
  inner_with_header =
      rw (← drop-drop (4 * op_length h.word) (h.place + 6) framed, place, behind) (drop_at area inner (4 * op_length h.word) whole)

-- a received frame of which none of 12 to 18 is given
pub record Passed (S : Ways) (f : List ℕ) (h : Header) : Type 0 where
  pub to_us : be48 f 0 ≡ S.mac
  pub version_0 : version h.word ≡ 0
  pub unicast : multi h.word ≡ 1 → ⊥
  pub ingress_valid : (0 < h.ingress) × (h.ingress < 0xFFC0)
  pub egress_valid : (0 < h.egress) × (h.egress ≤ 0xFFC0)
  pub hops_left : 0 < hop_count h.word
  pub area_whole : inner_start h ≤ length f

pub none_given : (b : Bool) (n x : ℕ) → 0 < n → cond b n x ≡ 0 → (b ≡ false) × (x ≡ 0)
none_given false n x h e = (refl, e)
none_given true n x h e = absurd (omega arith)

pub header_passed : (S : Ways) (f : List ℕ) (h : Header) → header_refusal S.mac f h ≡ 0 → Passed S f h
unfolding header_refusal
header_passed S f h e = rw e at passed
  where
    positive : (n : ℕ) → eqb n 0 ≡ false → 0 < n
    positive n e = omega (arith, eqb-false n 0 e)

    passed : IfNone (Passed S f h) (header_refusal S.mac f h)
    passed = search (either (IfNone (Passed S f h)), not-false, eqb-true, eqb-false, ltb-false, leb-false, positive, or_left, or_right) depth 16

-- the area sent is no longer than the one received, and of whole words
module _ (S : Ways) (area : List ℕ) (well : area_read S area ≡ WellFormed) where
  -- only in edition 1 is anything stripped
  pub strips_draft : (S.strip && not S.rfc7179) ≡ true → draft_read area ≡ WellFormed
  unfolding area_read
  strips_draft e = let old : S.rfc7179 ≡ false = search (not-true, and_right) in rw old at well

  pub sent_shorter : length (area_sent S area) ≤ length area
  unfolding area_sent
  sent_shorter = search (either (λ (sent : List ℕ). length sent ≤ length area), stripped_shorter, strips_draft, le_refl)

  pub sent_words : length area % 4 ≡ 0 → length (area_sent S area) % 4 ≡ 0
  unfolding area_sent
  sent_words m = search (either (λ (sent : List ℕ). length sent % 4 ≡ 0), stripped_words, strips_draft)

-- a frame of which none of 10 to 19 is given, and whether we are its egress
pub record Cleared (S : Ways) (f : List ℕ) (h : Header) (egress : Bool) : Type 0 where
  pub read : read_frame f ≡ Ok h
  pub unrefused : header_refusal S.mac f h ≡ 0
  pub well : area_read S (area_of f h) ≡ WellFormed
  pub role : we_are_egress S.nickname h ≡ egress

-- a forwarded frame, behind any link header
module _ {S : Ways} {f : List ℕ} {h : Header} {egress : Bool} (t : Cleared S f h egress) where
  passed : Passed S f h
  passed = header_passed S f h t.unrefused

  pub area_length : length (area_of f h) ≡ 4 * op_length h.word
  area_length = length_part f (h.place + 6) (4 * op_length h.word) passed.area_whole

  -- the options area, its length in words, and the header, as sent
  abbrev pub sent_area : List ℕ
  sent_area = area_sent S (area_of f h)

  abbrev pub sent_word : ℕ
  sent_word = header_word (version h.word) (reserved h.word) (multi h.word) (length sent_area / 4) (hop_count h.word - 1)

  sent_split : Split sent_word (version h.word) (reserved h.word) (multi h.word) (length sent_area / 4) (hop_count h.word - 1)
  sent_split =
      word_split _ _ _ _ _ (omega arith) (omega arith) (omega arith) (omega (arith, sent_shorter S (area_of f h) t.well, area_length)) (omega arith)

  pub sent_hop : suc (hop_count sent_word) ≡ hop_count h.word
  sent_hop = omega (arith, sent_split.its_hop, passed.hops_left)

  sent_whole : length sent_area ≡ 4 * op_length sent_word
  sent_whole = omega (arith, sent_words S (area_of f h) t.well (rw area_length (omega arith)), sent_split.its_op)

  module _ {l : List ℕ} (is : IsLink l) where
    abbrev pub sent_header : Header
    sent_header = record { place = length l; word = sent_word; egress = h.egress; ingress = h.ingress }

    pub forwarded_read : read_frame (l ++ forwarded_rest S f h) ≡ Ok sent_header
    unfolding forwarded_rest
    forwarded_read =
        read_with_header is sent_split.fits (frame_read f h t.read).egress_fits (frame_read f h t.read).ingress_fits (sent_area ++ inner_of f h)

    pub forwarded_area : area_of (l ++ forwarded_rest S f h) sent_header ≡ sent_area
    unfolding forwarded_rest
    forwarded_area = area_with_header l sent_header sent_area (inner_of f h) refl sent_whole

    pub forwarded_inner : inner_of (l ++ forwarded_rest S f h) sent_header ≡ inner_of f h
    unfolding forwarded_rest
    forwarded_inner = inner_with_header l sent_header sent_area (inner_of f h) refl sent_whole
