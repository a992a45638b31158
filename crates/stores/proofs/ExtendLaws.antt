-- A store opened and extended field by field stands for settings with these fields, and refuses what does not go with them. By the laws of
-- insertion, and word by word.
use Rattle.std.specs.Prelude.{if◌then◌else◌}
use Prim.Native.Nat.{ℕ, suc, ◌+◌, ◌*◌, ◌/◌, ◌%◌, ◌≤◌, ◌<◌}
use mathlib.Core.Path.{◌≡◌, refl, ◌∙◌, fun_ext}
use mathlib.Core.List.{List, [], ◌∷◌}
use mathlib.Core.Bool.{Bool, true, false, not, ◌&&◌, not-not, and_assoc}
use native.Mathlib.Omega.{arith}
use borrow.Author.Tests.{ltb-true, ltb-false, leb-true, eqb-true, not-false}
use lib.Dec.{ltb, leb, eqb}
use lib.ListN.{length, get_or, set, length-set}
use lib.Seq.{get_or-set_same, get_or-set_other}
use Rattle.rules.specs as rules
use rules.{Octets.octet, Octets.put, Link.ethertype_trill, Fields.field, Fields.length_good}
use rules.declared.NextHop.{NextHop}
use rules.Settings.{Settings, hop_good, hop_of, serial_met, with_hop, with_field, continues, nickname_valid, ways_of}
use Rattle.rules.proofs.TestLaws.{and_true, and_yes, by_order, by_equal, tests}
use Rattle.rules.proofs.{OctetLaws.length_put, FrameLaws.none_given}
use Rattle.stores.specs
use specs.Store.{count_in, hops_from, index_in, hop_for, ways_in, store_good, StandsFor, Stands}
use specs.Insert.{first_word, second_word, index_for, inserted_in, Shifted}
use specs.Extend.{with_switch, room_in, record_code, flag_code, met_by, extending, with_record, with_flag, extended}
use Rattle.octets.specs.Flags.{flag_tag, flag_value, flag_by}
use Rattle.octets.proofs.{FlagLaws.flag_continues, Cases.coded}
use Rattle.stores.proofs
use proofs.InsertLaws.{Fitting, fitting, inserted_so, met_is, stands_more, stands_same}
use proofs.LookupLaws.{serves}
use Rattle.rules.specs.Settings as S

-- words for a switch, and for one more record as long as one is allowed
pub record Ample (w : List ℕ) : Type 0 where
  pub opened : 4 ≤ length w
  pub room : count_in w < 64 → 6 + 2 * count_in w ≤ length w

-- what a record is known by that is not refused
pub record Admitted (w : List ℕ) (r : NextHop) : Type 0 where
  pub few : count_in w < 64
  pub room : 6 + 2 * count_in w ≤ length w
  pub new : met_by w r ≡ false

-- room for one more record
module _ (w : List ℕ) where
  pub room_parts : room_in w ≡ true → (4 ≤ length w) × (count_in w < 64) × (6 + 2 * count_in w ≤ length w)
  unfolding room_in
  room_parts e =
      let a = and_true (leb 4 (length w)) (ltb (count_in w) 64 && leb (6 + 2 * count_in w) (length w)) e in
      let b = and_true (ltb (count_in w) 64) (leb (6 + 2 * count_in w) (length w)) a.1 in
      (leb-true 4 (length w) a.0, ltb-true (count_in w) 64 b.0, leb-true (6 + 2 * count_in w) (length w) b.1)

  module _ (a : 4 ≤ length w) where
    pub room_full : 64 ≤ count_in w → room_in w ≡ false
    unfolding room_in
    room_full h = simp tests

    pub room_yes : count_in w < 64 → 6 + 2 * count_in w ≤ length w → room_in w ≡ true
    unfolding room_in
    room_yes b h = simp tests

record_parts : (w v : List ℕ) → record_code w v ≡ 0 → Admitted w (hop_of v)
unfolding record_code
record_parts w v e =
    let a = none_given (not (length_good 2 (length v))) 42 _ (omega arith) e in
    let b = none_given (not (hop_good (hop_of v))) 44 _ (omega arith) a.1 in
    let c = none_given (not (room_in w)) 46 _ (omega arith) b.1 in
    let r = room_parts w (not-false (room_in w) c.0) in
    record { few = r.1; room = r.2; new = (none_given (met_by w (hop_of v)) 47 0 (omega arith) c.1).0 }

flag_parts : (w : List ℕ) (tag : ℕ) (v : List ℕ) → flag_code w tag v ≡ 0 → (flag_tag tag ≡ true) × (flag_value tag v ≡ true) × (4 ≤ length w)
unfolding flag_code
flag_parts w tag v e =
    let a = none_given (not (flag_tag tag)) 43 _ (omega arith) e in
    let b = none_given (not (eqb (length v) 1)) 42 _ (omega arith) a.1 in
    let c = none_given (not (flag_value tag v)) 44 _ (omega arith) b.1 in
    (not-false (flag_tag tag) a.0, not-false (flag_value tag v) c.0, ltb-false (length w) 4 (none_given (ltb (length w) 4) 46 0 (omega arith) c.1).0)

-- words whose first three stay stand for the same but for the records
same_first : {w : List ℕ} (u : List ℕ) {T : Settings} → Stands w T → ((j : ℕ) → j < 3 → get_or u j 0 ≡ get_or w j 0) → {hops : List NextHop}
    → StandsFor u (count_in u) hops → Stands u (record { nickname = T.nickname; mac = T.mac; strip = T.strip; rfc7179 = T.rfc7179; hops = hops })
same_first u s same r =
    let flags = same 2 (omega arith) in
    record {
      nickname = rw (same 0 (omega arith)) s.nickname;
      mac = rw (same 1 (omega arith)) s.mac;
      strip = rw flags s.strip;
      rfc7179 = rw flags s.rfc7179;
      records = r;
    }

-- one more record
module _ {w : List ℕ} {r : NextHop} (ok : Admitted w r) where
  abbrev u : List ℕ
  u = inserted_in w (count_in w) (first_word r) (second_word r)

  shifted : Shifted w (4 + 2 * index_for w (first_word r / 65536) (count_in w)) (4 + 2 * count_in w) u
  shifted = (inserted_so w (count_in w) (first_word r) (second_word r) ok.new ok.room).shifted

  other : (j : ℕ) → (j ≡ 3 → ⊥) → get_or (with_record w r) j 0 ≡ get_or u j 0
  other j ne = rw get_or-set_other

  pub record_counts : count_in (with_record w r) ≡ suc (count_in w)
  record_counts = get_or-set_same u 3 (count_in w + 1) 0 (omega (arith, shifted.size, ok.room)) ∙ omega arith

  pub record_long : length (with_record w r) ≡ length w
  record_long = rw length-set shifted.size

  record_stands : Fitting r → (T : Settings) → Stands w T → Stands (with_record w r) (with_hop T r)
  record_stands fits T s =
      let more = stands_more w r ok.few ok.room fits s.records ok.new in
      same_first (with_record w r) s (λ j h. other j (omega arith) ∙ shifted.before j (omega arith))
      (rw record_counts (stands_same u (with_record w r) more (λ j a b. other j (omega arith))))

-- the word of the flags set anew
module _ (w : List ℕ) (long : 4 ≤ length w) (T : Settings) (s : Stands w T) where
  word_stands : (x : ℕ) (strip edition : Bool) → eqb (x % 2) 1 ≡ strip → eqb (x / 2 % 2) 1 ≡ edition
      → Stands (set w 2 x) (record { nickname = T.nickname; mac = T.mac; strip = strip; rfc7179 = edition; hops = T.hops })
  word_stands x strip edition a b =
      let word = get_or-set_same w 2 x 0 (omega arith) in
      record {
        nickname = rw (unmoved 0 (omega arith)) s.nickname;
        mac = rw (unmoved 1 (omega arith)) s.mac;
        strip = rw word a;
        rfc7179 = rw word b;
        records = rw (unmoved 3 (omega arith)) (stands_same w (set w 2 x) s.records (λ j p q. unmoved j (omega arith)));
      }
    where
      unmoved : (j : ℕ) → (j ≡ 2 → ⊥) → get_or (set w 2 x) j 0 ≡ get_or w j 0
      unmoved j ne = rw get_or-set_other

  flag_stands : (tag : ℕ) (v : List ℕ) → flag_tag tag ≡ true → flag_value tag v ≡ true → Stands (with_flag w tag v) (with_field T (field tag v))
  unfolding with_field flag_tag flag_value
  flag_stands tag v is_flag good =
      by_equal tag 3
      (λ e.
      let small = leb-true o 1 (rw e at good) in
      let same : (x / 2 % 2 * 2 + o) / 2 % 2 ≡ x / 2 % 2 = omega arith in
      rw e (word_stands (x / 2 % 2 * 2 + o) (not (eqb o 0)) T.rfc7179 (low small) (rw same s.rfc7179)))
      (λ n.
      let six : tag ≡ 6 = eqb-true tag 6 (simp tests at is_flag) in
      rw six (word_stands ((if eqb o 2 then 2 else 0) + x % 2) T.strip (eqb o 2) (rw (kept (eqb o 2)) s.strip) (high (eqb o 2))))
    where
      x : ℕ
      x = get_or w 2 0

      o : ℕ
      o = octet v 0

      low : o ≤ 1 → eqb ((x / 2 % 2 * 2 + o) % 2) 1 ≡ not (eqb o 0)
      low h =
          by_equal o 0
          (λ e.
          let z : (x / 2 % 2 * 2 + o) % 2 ≡ 0 = omega arith in
          rw (z, e))
          (λ n.
          let z : (x / 2 % 2 * 2 + o) % 2 ≡ 1 = omega (arith, n) in
          simp (z, tests))

      kept : (b : Bool) → ((if b then 2 else 0) + x % 2) % 2 ≡ x % 2
      kept true = omega arith
      kept false = omega arith

      high : (b : Bool) → eqb (((if b then 2 else 0) + x % 2) / 2 % 2) 1 ≡ b
      high true = let z : (2 + x % 2) / 2 % 2 ≡ 1 = omega arith in rw z
      high false = let z : (0 + x % 2) / 2 % 2 ≡ 0 = omega arith in rw z

-- the code by settings
abbrev pub record_by : Settings → List ℕ → ℕ
record_by T v =
    if not (length_good 2 (length v)) then 42 else
    if not (hop_good (hop_of v)) then 44 else
    if not (ltb (length T.hops) S.hops_most) then 46 else
    if serial_met (hop_of v) T.hops then 47
    else 0

-- a field is refused, or is a record that is taken, or a flag that is
module _ (P : ℕ → List ℕ → Type 0) (w : List ℕ) (tag : ℕ) (v : List ℕ) where
  by_field : ((extending w tag v ≡ 0 → ⊥) → P tag w) → (record_code w v ≡ 0 → P 2 (with_record w (hop_of v))) → (flag_code w tag v ≡ 0 → P tag (with_flag w tag v))
      → P tag (extended w tag v)
  unfolding extending extended
  by_field refused two flag =
      by_equal (extending w tag v) 0
      (λ z. by_equal tag 2
      (λ e. rw (e, extended, rw e at z) (two (rw e at z)))
      (λ n.
      let f : flag_code w tag v ≡ 0 = simp tests at z in
      simp (extended, tests, f) (flag f)))
      (λ n. simp (extended, tests) (refused n))

-- WHAT A FIELD DOES to words that stand for settings: the code, and the words where it is taken
module _ (w : List ℕ) (T : Settings) (s : Stands w T) (ample : Ample w) (v : List ℕ) where
  pub record_checked : extending w 2 v ≡ record_by T v
  unfolding extending record_code
  record_checked =
      let opened = ample.opened in
      by_order (count_in w) 64
      (λ h.
      let room = ample.room h in
      simp (record_code, s.records.count, room_yes, tests, met_is w (hop_of v) h room (fitting v) s.records))
      (λ h. simp (record_code, s.records.count, room_full, tests))

  pub flag_checked : (tag : ℕ) → (tag ≡ 2 → ⊥) → extending w tag v ≡ flag_by tag v
  unfolding extending flag_code
  flag_checked tag n =
      let opened = ample.opened in
      simp (extending, flag_code, tests)

  pub extended_stands : (tag : ℕ) → extending w tag v ≡ 0 → Stands (extended w tag v) (with_field T (field tag v))
  unfolding with_field
  extended_stands tag z =
      by_field (λ tag u. Stands u (with_field T (field tag v))) w tag v (λ n. absurd (n z)) (λ c. record_stands (record_parts w v c) (fitting v) T s) (λ c.
      let p = flag_parts w tag v c in
      flag_stands w p.2 T s tag v p.0 p.1)

pub extended_long : (w : List ℕ) (tag : ℕ) (v : List ℕ) → length (extended w tag v) ≡ length w
extended_long w tag v = by_field (λ tag u. length u ≡ length w) w tag v (λ n. refl) (λ c. record_long (record_parts w v c)) (λ c. rw length-set)

pub extended_few : (w : List ℕ) (tag : ℕ) (v : List ℕ) → count_in w ≤ 64 → count_in (extended w tag v) ≤ 64
extended_few w tag v h =
    by_field (λ tag u. count_in u ≤ 64) w tag v (λ n. h)
    (λ c. omega (arith, record_counts (record_parts w v c), (record_parts w v c).few))
    (λ c. rw (get_or-set_other w 2 3 _ 0 (omega arith)) h)

-- a field that goes with settings is one that is taken
pub extending_continues : (w : List ℕ) (T : Settings) → Stands w T → Ample w → (tag : ℕ) (v : List ℕ) → eqb (extending w tag v) 0 ≡ continues T (field tag v)
unfolding continues
extending_continues w T s ample tag v =
    by_equal tag 2
    (λ e. rw (e, record_checked w T s ample v) (simp (coded, not-not, and_yes, and_assoc)))
    (λ n. rw (flag_checked w T s ample v tag n) (flag_continues T tag v n))

-- a store opened for a switch
none_stands : (u : List ℕ) → StandsFor u 0 []
unfolding hops_from
none_stands u =
    record { ordered = record { few = omega arith; rises = λ i j b c. absurd (omega arith) }; count = refl; same_ruling = λ d. refl; same_met = λ y. refl }

module _ (w v : List ℕ) (long : 4 ≤ length w) where
  pub switch_stands : Stands (with_switch w v) (S.switch_of v)
  unfolding put
  switch_stands = record { nickname = refl; mac = omega arith; strip = refl; rfc7179 = refl; records = none_stands (with_switch w v) }

  pub switch_counts : count_in (with_switch w v) ≡ 0
  unfolding put
  switch_counts = refl

  pub switch_long : length (with_switch w v) ≡ length w
  switch_long = length_put w 0 ((S.switch_of v).nickname ∷ ((S.switch_of v).mac * 65536 + ethertype_trill) ∷ 0 ∷ 0 ∷ []) long

-- words that stand for settings say what these say, and are good
module _ (w : List ℕ) (T : Settings) (s : Stands w T) where
  pub says : ways_in w ≡ ways_of T
  says =
      let hops : (λ (d : ℕ). hop_for w (count_in w) d (index_in w (count_in w) d)) ≡ S.next_hop T = fun_ext (serves w (count_in w) T s.records) in
      λ i. record { nickname = s.nickname i; mac = s.mac i; strip = s.strip i; rfc7179 = s.rfc7179 i; hop = hops i }

  pub is_good : nickname_valid T.nickname ≡ true → 4 + 2 * count_in w ≤ length w → store_good w ≡ true
  unfolding store_good
  is_good v long =
      let opened : 4 ≤ length w = omega arith in
      let few = s.records.ordered.few in
      simp (tests, s.nickname, v)

-- and words that agree with them as far as the records go
pub stands_too : (w u : List ℕ) (T : Settings) → ((j : ℕ) → j < 4 + 2 * count_in w → get_or u j 0 ≡ get_or w j 0) → Stands w T → Stands u T
stands_too w u T same s =
    same_first u s (λ j h. same j (omega arith)) (rw (same 3 (omega arith)) (stands_same w u s.records (λ j a b. same j b)))
