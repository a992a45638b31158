-- Reading a description. One field more, checked and taken into the stores: by the tests of `field_refusal`, and the laws of stores. Then the loop: the words
-- stand for the switches read so far, and the rest of the fields decides as the whole does. One law for each way out and each need.
use Rattle.std.specs.Prelude.{if◌then◌else◌, is_some, Option, Some, None}
use mathlib.Core.Path.{◌≡◌, refl, sym, ap, ◌∙◌}
use mathlib.Core.List.{List, [], ◌∷◌, ◌++◌}
use mathlib.Core.Bool.{Bool, true, false, not, ◌||◌, false≢true, not-not}
use Prim.Native.Nat.{ℕ, suc, ◌+◌, ◌-◌, ◌≤◌, ◌<◌, ◌*◌}
use native.Mathlib.Omega.{arith}
use borrow.Author.Rules.{rules}
use borrow.Author.Tests.{ne_eqb, eqb-true, eqb-false, lt-ltb, le-leb, not-true, not-false, lt-leb, le-ltb, ltb-true, leb-true, leb-false}
use lib.Dec.{eqb, ltb, leb}
use lib.ListN.{length, get_or, set, take, drop, length-set, length-drop, length-append}
use Rattle.rules.specs as rules
use rules.Octets.{be16, part}
use rules.Fields.{field, length_good, Field, cut, field_at, fields_from, fields}
use rules.Settings.{Settings, switch_of, opens, switch_good, hop_of, serial_met, with_field}
use rules.Campus.{switch_named, known, order_good, value_good, nickname_new, room_good, serial_new, entry_known, field_refusal, with_next, Described, on_latest}
use rules.Campus.{refused, described_from, described, file_most}
use rules.declared.FieldRead.{FieldRead}
use Rattle.rules.proofs.{TestLaws.by_test, TestLaws.and_yes, FrameLaws.none_given, OctetLaws.length_part, Taken.taken}
use Rattle.rules.proofs.FieldLaws.{IsField, field_read, fields_end, fields_cut, fields_on}
use Rattle.rules.proofs.DescriptionLaws.{described_end, described_none, described_on, described_refused}
use Rattle.octets.specs.Flags.{flag_tag, flag_value, flag_by}
use Rattle.stores.specs.Extend.{opens_in, with_switch, extending, record_code, flag_code}
use Rattle.stores.proofs.ExtendLaws.{record_by, record_checked, flag_checked, extended_long, switch_long}
use Rattle.campus.specs
use specs.Places.{order_by, counted_by, between, clock_at, entry_value, code_after, clocked_by}
use specs.Stores.{known_in, end_of, span_of, Kept, Stores, PartOpens, PartExtends, so_far, OfSettings, Took, words_for, Accepts}
use rules.declared.Refusal.{Refusal}
use rules.declared.Refusal.TheVariants as R
use Rattle.rules.specs.Answer.{code_of}
use Rattle.campus.proofs
use proofs.StoresLaws.{end_is, part_long, stores_along, stores_opened, latest_ample, stores_extended, known_is, span_none, span_more, span_most, stores_sound}

-- the code of one field, by the switches so far
serial_other : (l : List Settings) (c : Option (List ℕ)) (v : List ℕ) (tag : ℕ) → (tag ≡ 2 → ⊥) → serial_new (so_far l c) tag v ≡ true
unfolding serial_new
serial_other [] c v tag h = refl
serial_other (T ∷ l) c v tag h = rw (serial_new, ne_eqb tag 2 h)

order_is : (l : List Settings) (c : Option (List ℕ)) (n : ℕ) (clock : Option ℕ) (tag : ℕ) → length l ≡ n → known c ≡ is_some clock
    → order_good (so_far l c) tag ≡ order_by n clock tag
unfolding order_good order_by
order_is l c n clock tag h k =
    by_test (eqb tag 2 || eqb tag 3 || eqb tag 6)
    (λ t.
    let no_clock : eqb tag 4 ≡ false = by_test (eqb tag 4) (λ e. cc (rw (eqb-true tag 4 e) at t)) (λ f. f) in
    rw (t, h, no_clock) (and_yes (not (eqb n 0))))
    (λ f. by_test (eqb tag 4) (λ e. rw (f, e, k)) (λ e. rw (f, e)))

-- a record and a flag, of the latest switch
module _ (T : Settings) (l : List Settings) (c : Option (List ℕ)) (v : List ℕ) where
  some_switch : eqb (length (T ∷ l)) 0 ≡ false
  some_switch = ne_eqb (suc (length l)) 0 (omega arith)

  code_2 : record_by T v ≡ field_refusal (so_far (T ∷ l) c) (field 2 v)
  unfolding field_refusal order_good value_good nickname_new room_good serial_new entry_known
  code_2 = rw (some_switch, not-not (serial_met (hop_of v) T.hops))

  code_flag : (tag : ℕ) → (eqb tag 3 || eqb tag 6) ≡ true → flag_by tag v ≡ field_refusal (so_far (T ∷ l) c) (field tag v)
  unfolding field_refusal order_good value_good nickname_new room_good serial_new entry_known flag_tag flag_value length_good
  code_flag tag t =
      by_test (eqb tag 3) (λ b. rw (eqb-true tag 3 b, some_switch)) (λ b. rw (eqb-true tag 6 (rw b at t), some_switch))

-- the tags of settings
settings_tag : {tag size : ℕ} → OfSettings tag size → (eqb tag 2 || eqb tag 3 || eqb tag 6) ≡ true
unfolding length_good
settings_tag {tag} o =
    by_test (eqb tag 2) (λ t. rw t) (λ f.
    by_test (eqb tag 3) (λ t. rw (f, t)) (λ g.
    by_test (eqb tag 6) (λ t. rw (f, g, t)) (λ h.
    cc (rw (ne_eqb tag 1 o.no_switch, f, g, ne_eqb tag 4 o.no_clock, ne_eqb tag 5 o.no_entry, h) at o.good))))

-- what a refusal leaves
module _ (w starts : List ℕ) (n : ℕ) (clock : Option ℕ) (tag : ℕ) (v : List ℕ) where
  not_taken : (code : ℕ) (w' : List ℕ) → 0 < code → length w' ≡ length w
      → ((l : List Settings) (c : Option (List ℕ)) → Stores w starts l → length l ≡ n → known c ≡ is_some clock
      → code ≡ field_refusal (so_far l c) (field tag v))
      → Took w starts n clock tag v code w' starts
  not_taken code w' z same j = record { size = same; starts_size = refl; checked = j; stored = λ l c s e q. absurd (omega arith) }

  module _ (g : Bool) (a : g ≡ length_good tag (length v)) where
    pub took_42 : not g ≡ true → Took w starts n clock tag v 42 w starts
    unfolding field_refusal
    took_42 t = not_taken 42 w (omega arith) refl (λ l c s e k. rw (sym a ∙ not-true g t))

    module _ (t : not g ≡ false) (p : Bool) (b : p ≡ order_by n clock tag) where
      pub its_good : length_good tag (length v) ≡ true
      its_good = sym a ∙ not-false g t

      pub took_43 : not p ≡ true → Took w starts n clock tag v 43 w starts
      unfolding field_refusal
      took_43 q = not_taken 43 w (omega arith) refl (λ l c s e k. rw (its_good, order_is l c n clock tag e k ∙ sym b ∙ not-true p q))

      module _ (q : not p ≡ false) where
        in_order : order_by n clock tag ≡ true
        in_order = sym b ∙ not-false p q

        pub length_1 : tag ≡ 1 → length_good 1 (length v) ≡ true
        length_1 e = rw e at its_good

        pub took_1 : {r : ℕ} {w' starts' : List ℕ} → tag ≡ 1 → Took w starts n clock 1 v r w' starts'
            → Took w starts n clock tag v r w' starts'
        took_1 e x = rw e x

        pub took_4 : tag ≡ 4 → Took w starts n clock tag v 0 w starts
        unfolding with_next field_refusal value_good nickname_new room_good entry_known
        took_4 e =
            record {
              size = refl;
              starts_size = refl;
              checked = λ l c s m k. rw (e, rw e at its_good, order_is l c n clock 4 m k ∙ (rw e at in_order), serial_other l c v 4 (omega arith));
              stored = λ l c s m z. rw e s;
            }

        module _ (e : tag ≡ 5) (x : Bool) (is : x ≡ known_in w starts n (be16 v 0)) where
          entry_code : (l : List Settings) (c : Option (List ℕ)) → Stores w starts l → length l ≡ n
              → (if not x then 48 else 0) ≡ field_refusal (so_far l c) (field tag v)
          unfolding field_refusal order_good value_good nickname_new room_good entry_known
          entry_code l c s m = rw (e, rw e at its_good, serial_other l c v 5 (omega arith), ← known_is w starts l s n m (be16 v 0), ← is)

          pub took_48 : x ≡ false → Took w starts n clock tag v 48 w starts
          took_48 y = not_taken 48 w (omega arith) refl (λ l c s m k. (rw y at (entry_code l c s m)))

          pub took_5 : x ≡ true → Took w starts n clock tag v 0 w starts
          unfolding with_next
          took_5 y = record { size = refl; starts_size = refl; checked = λ l c s m k. (rw y at (entry_code l c s m)); stored = λ l c s m z. rw e s }

        pub of_switch : OfSettings tag (length v) → 0 < n
        unfolding order_by
        of_switch o =
            by_test (eqb n 0)
            (λ z. absurd (false≢true (rw (order_by, settings_tag o, z) at in_order)))
            (λ z. omega (arith, eqb-false n 0 z))

pub ruleset take_laws = (rules, took_42, took_43, length_1, took_1, took_4, took_48, took_5, its_good, of_switch)

-- a switch: its nickname asked for before, the store opened behind the last
pub opened_long : {w starts v w' : List ℕ} {n end : ℕ} {r : Bool} → PartOpens w end v r w' → Kept w starts n → end ≡ end_of w starts n
    → length w' ≡ length w
opened_long {w} {v = v} {end = end} o k e =
    rw o.words
    (part_long w end _ (omega arith)
    (by_test (opens_in (drop end w) v) (λ t. rw t (switch_long (drop end w) v (rw length-drop (omega arith)))) (λ f. rw f)))

module _ (w starts : List ℕ) (n : ℕ) (clock : Option ℕ) (v : List ℕ) (k : Kept w starts n) (long : length_good 1 (length v) ≡ true)
    (x : Bool) (is : x ≡ known_in w starts n (be16 v 0)) (end : ℕ) (ends : end ≡ end_of w starts n)
    (r : Bool) (w' : List ℕ) (o : PartOpens w end v r w') where
  good_is : r ≡ switch_good (switch_of v)
  unfolding opens_in opens
  good_is = o.answer ∙ rw (le-leb 4 (length (drop end w)) (rw length-drop (omega arith)), long)

  abbrev open_code : ℕ
  open_code = if not r then 44 else if x then 45 else if not (ltb n 16) then 46 else 0

  open_code_is : (l : List Settings) (c : Option (List ℕ)) → Stores w starts l → length l ≡ n → field_refusal (so_far l c) (field 1 v) ≡ open_code
  unfolding field_refusal order_good value_good nickname_new room_good entry_known
  open_code_is l c s m =
      rw (long, serial_other l c v 1 (omega arith), not-not (known (switch_named l (be16 v 0))), ← good_is, ← known_is w starts l s n m (be16 v 0), ← is, m)

  open_refused : (given : ℕ) → 0 < given → given ≡ open_code → Took w starts n clock 1 v given w' starts
  open_refused given z e = not_taken w starts n clock 1 v given w' z (opened_long o k ends) (λ l c s m q. e ∙ sym (open_code_is l c s m))

  pub open_44 : not r ≡ true → Took w starts n clock 1 v 44 w' starts
  open_44 t = open_refused 44 (omega arith) (rw t)

  module _ (t : not r ≡ false) where
    pub open_45 : x ≡ true → Took w starts n clock 1 v 45 w' starts
    open_45 y = open_refused 45 (omega arith) (rw (t, y))

    module _ (y : x ≡ false) where
      pub open_46 : n ≡ 16 → Took w starts n clock 1 v 46 w' starts
      open_46 e = open_refused 46 (omega arith) (rw (t, y, e))

      module _ (e : n ≡ 16 → ⊥) where
        with_switch_lem : w' ≡ take end w ++ with_switch (drop end w) v
        with_switch_lem = o.words ∙ rw (sym o.answer ∙ not-false r t)

        pub open_taken : Took w starts n clock 1 v 0 w' (set starts n end)
        unfolding with_next opens
        open_taken =
            record {
              size = opened_long o k ends;
              starts_size = length-set starts n end;
              checked = λ l c s m q. sym (open_code_is l c s m ∙ rw (t, y, lt-ltb n 16 (omega arith)));
              stored = λ l c s m z.
                  let span : end ≡ span_of l = ends ∙ ap (end_of w starts) (sym m) ∙ end_is w starts l s in
                  stores_along (switch_of v ∷ l) (with_switch_lem ∙ ap (λ (k : ℕ). take k w ++ with_switch (drop k w) v) span) (cc)
                  (stores_opened w starts v l s (omega arith) (omega arith) (rw (long, ← good_is) (not-false r t)));
            }

pub ruleset open_laws = (rules, open_44, open_45, open_46, open_taken, opened_long)

-- a record or a flag of the latest switch
pub part_extended_long : {w v w' : List ℕ} {at tag r : ℕ} → PartExtends w at tag v r w' → at ≤ length w → length w' ≡ length w
part_extended_long {w} {v} {at = at} {tag} x h = rw x.words (part_long w at _ h (extended_long (drop at w) tag v))

-- the codes that a store gives
codes : (w : List ℕ) (tag : ℕ) (v : List ℕ) → (extending w tag v ≤ 47) × ((extending w tag v ≡ 0 → ⊥) → 42 ≤ extending w tag v)
unfolding extending record_code flag_code
codes w tag v = grind arith

module _ {w v w' : List ℕ} {at tag r : ℕ} (x : PartExtends w at tag v r w') where
  pub code_most : r ≤ 47
  code_most = rw x.code (codes (drop at w) tag v).0

  pub code_least : (r ≡ 0 → ⊥) → 42 ≤ r
  code_least z = rw x.code ((codes (drop at w) tag v).1 (rw x.code at z))

module _ (w starts : List ℕ) (n : ℕ) (clock : Option ℕ) (tag : ℕ) (v : List ℕ) (k : Kept w starts n) (there : 0 < n) where
  pub extend_within : get_or starts (n - 1) 0 ≤ length w
  extend_within = omega (arith, k.started.within (n - 1) (omega arith))

  module _ (of : OfSettings tag (length v)) (r : ℕ) (w' : List ℕ) (x : PartExtends w (get_or starts (n - 1) 0) tag v r w') where
    -- by the latest switch
    module _ (T : Settings) (l : List Settings) (c : Option (List ℕ)) (s : Stores w starts (T ∷ l)) (m : suc (length l) ≡ n) where
      at_is : get_or starts (n - 1) 0 ≡ span_of l
      at_is =
          let e : n - 1 ≡ length l = omega arith in
          rw e s.0.start

      room : span_of (T ∷ l) + 6 ≤ length w
      room = omega (arith, ap (end_of w starts) (sym m), end_is w starts (T ∷ l) s)

      latest_code : r ≡ field_refusal (so_far (T ∷ l) c) (field tag v)
      latest_code =
          let ample = latest_ample w starts T l s room in
          x.code
          ∙ rw at_is
          (by_test (eqb tag 2)
          (λ t. rw (eqb-true tag 2 t) (record_checked (drop (span_of l) w) T s.0.stands ample v ∙ code_2 T l c v))
          (λ f.
          flag_checked (drop (span_of l) w) T s.0.stands ample v tag (eqb-false tag 2 f)
          ∙ code_flag T l c v tag (rw f at (settings_tag of))))

      latest_stored : r ≡ 0 → Stores w' starts (with_next (so_far (T ∷ l) c) (field tag v)).switches
      unfolding with_next
      latest_stored z =
          rw (ne_eqb tag 1 of.no_switch, ne_eqb tag 4 of.no_clock, ne_eqb tag 5 of.no_entry)
          (stores_along (with_field T (field tag v) ∷ l) (rw at_is at x.words) refl (stores_extended w starts T l s room tag v (sym (rw at_is at x.code) ∙ z)))

    latest : (l : List Settings) (c : Option (List ℕ)) → Stores w starts l → length l ≡ n
        → (r ≡ field_refusal (so_far l c) (field tag v)) × (r ≡ 0 → Stores w' starts (with_next (so_far l c) (field tag v)).switches)
    latest [] c s m = absurd (omega arith)
    latest (T ∷ l) c s m = (latest_code T l c s m, latest_stored T l c s m)

    pub extend_taken : (code : ℕ) → code ≡ r → Took w starts n clock tag v code w' starts
    extend_taken code same =
        rw same (record {
          size = part_extended_long x extend_within;
          starts_size = refl;
          checked = λ l c s m q. (latest l c s m).0;
          stored = λ l c s m z. (latest l c s m).1 z;
        })

pub ruleset extend_laws = (rules, extend_within, code_most, code_least, extend_taken, part_extended_long)

pub between_there : (s : List ℕ) (start end : ℕ) → start ≤ end → end ≤ length s → take (end - start) (drop start s) ≡ between s start end
unfolding between
between_there s start end order h = simp le-leb

-- what a field that is not refused says
record Passed (d : Described) (tag : ℕ) (v : List ℕ) : Type 0 where
  pub its_length : length_good tag (length v) ≡ true
  pub has_room : room_good d tag ≡ true
  pub is_known : entry_known d tag v ≡ true

passes : (d : Described) (tag : ℕ) (v : List ℕ) → field_refusal d (field tag v) ≡ 0 → Passed d tag v
unfolding field_refusal
passes d tag v e =
    let p1 = none_given (not (length_good tag (length v))) 42 _ (omega arith) e in
    let p2 = none_given (not (order_good d tag)) 43 _ (omega arith) p1.1 in
    let p3 = none_given (not (value_good tag v)) 44 _ (omega arith) p2.1 in
    let p4 = none_given (not (nickname_new d tag v)) 45 _ (omega arith) p3.1 in
    let p5 = none_given (not (room_good d tag)) 46 _ (omega arith) p4.1 in
    let p6 = none_given (not (serial_new d tag v)) 47 _ (omega arith) p5.1 in
    let p7 = none_given (not (entry_known d tag v)) 48 _ (omega arith) p6.1 in
    record { its_length = not-false _ p1.0; has_room = not-false _ p5.0; is_known = not-false _ p7.0 }

-- the code for what stands behind the entry field
module _ (s : List ℕ) (at : ℕ) where
  pub after_end : length s ≤ at → 0 ≡ code_after s at
  unfolding code_after
  after_end h = simp le-leb

  module _ (read : Option FieldRead) (is : read ≡ field_at s at) (h : at < length s) where
    pub after_cut : read ≡ None → 41 ≡ code_after s at
    unfolding code_after
    after_cut e = rw (code_after, lt-leb (length s) at h, ← is, e)

    module _ (u : FieldRead) (e : read ≡ Some u) (good : Bool) (its : good ≡ length_good u.tag u.length) where
      pub after_length : not good ≡ true → 42 ≡ code_after s at
      unfolding code_after
      after_length f = rw (code_after, lt-leb (length s) at h, ← is, e, ← its, f)

      pub after_order : not good ≡ false → 43 ≡ code_after s at
      unfolding code_after
      after_order t = rw (code_after, lt-leb (length s) at h, ← is, e, ← its, t)

module _ (s : List ℕ) (at : ℕ) (h : at < length s) (d : Described) (k : known d.entry ≡ true) (g : ℕ) where
  abbrev Refused : Type 0
  Refused = (described_from d (fields_from (suc g) s at) ≡ refused (code_after s at)) × (code_after s at ≡ 0 → ⊥)

  refuses : (f : Field) (fs : List Field) (code : ℕ) → fields_from (suc g) s at ≡ f ∷ fs → field_refusal d f ≡ code → code ≡ code_after s at → 0 < code
      → Refused
  refuses f fs code is r c z = (rw (is, ← c, ← r) (described_refused d f fs (omega arith)), omega arith)

  behind : Refused
  unfolding field_refusal order_good
  behind = go (field_at s at) refl
    where
      go : (w : Option FieldRead) → w ≡ field_at s at → Refused
      go None e = refuses cut [] 41 (fields_cut g s at h (sym e)) refl (after_cut s at None e h refl) (omega arith)
      go (Some u) e =
          let i = field_read s at u (sym e) in
          let v : List ℕ = part s (at + 3) u.length in
          let l : length v ≡ u.length = length_part s (at + 3) u.length (omega arith) in
          let on = fields_on g s at u h (sym e) in
          by_test (length_good u.tag u.length)
          (λ b. refuses (field u.tag v) (fields_from g s u.next) 43 on (rw (l, b, k))
          (after_order s at (Some u) e h u refl true (sym b) refl) (omega arith))
          (λ b. refuses (field u.tag v) (fields_from g s u.next) 42 on (rw (l, b))
          (after_length s at (Some u) e h u refl false (sym b) refl) (omega arith))

clock_known : (s : List ℕ) (clock : Option ℕ) → known (clock_at s clock) ≡ is_some clock
clock_known s None = refl
clock_known s (Some place) = refl

hop_long : (k : ℕ) → length_good 2 k ≡ true → 14 ≤ k
unfolding length_good
hop_long k e = by_test (eqb k 14) (λ t. omega (arith, eqb-true k 14 t)) (λ t. omega (arith, eqb-true k 16 (rw t at e)))

-- the switches with one more field
module _ (l : List Settings) (c : Option (List ℕ)) (tag : ℕ) (v : List ℕ) where
  abbrev after : List Settings
  after = (with_next (so_far l c) (field tag v)).switches

  after_1 : eqb tag 1 ≡ true → after ≡ switch_of v ∷ l
  unfolding with_next
  after_1 a = rw (a, after)

  -- a record more, or none
  abbrev more : ℕ
  more = if eqb tag 2 then 1 else 0

  hops_with : (T : Settings) → length (with_field T (field tag v)).hops ≤ length T.hops + more
  unfolding with_field
  hops_with T =
      by_test (eqb tag 2) (λ a. rw (a, length-append T.hops) (omega arith)) (λ a.
      by_test (eqb tag 3) (λ b. rw (a, b) (omega arith)) (λ b.
      by_test (eqb tag 6) (λ e. rw (a, b, e) (omega arith)) (λ e. rw (a, b, e) (omega arith))))

  on_latest_lem : (m : List Settings) → (length (on_latest (λ T. with_field T (field tag v)) m) ≡ length m)
      × (span_of (on_latest (λ T. with_field T (field tag v)) m) ≤ span_of m + 2 * more)
  on_latest_lem [] = (refl, omega arith)
  on_latest_lem (T ∷ m) = (refl, omega (arith, span_more T m, span_more (with_field T (field tag v)) m, hops_with T))

  after_other : eqb tag 1 ≡ false → (length after ≡ length l) × (span_of after ≤ span_of l + 2 * more)
  unfolding with_next
  after_other a =
      by_test (eqb tag 4) (λ b. rw (a, b, after) (refl, omega arith)) (λ b.
      by_test (eqb tag 5) (λ e. rw (a, b, e, after) (refl, omega arith)) (λ e. rw (a, b, e, after) (on_latest_lem l)))

  after_count : length after ≡ counted_by (length l) tag
  unfolding counted_by
  after_count = by_test (eqb tag 1) (λ a. rw (after_1 a, a) (omega arith)) (λ a. rw a (after_other a).0)

  after_span : length_good tag (length v) ≡ true → 11 * span_of after ≤ 11 * span_of l + 4 * (3 + length v)
  unfolding length_good
  after_span good =
      by_test (eqb tag 1)
      (λ a. omega (arith, ap span_of (after_1 a), span_more (switch_of v) l, eqb-true (length v) 8 (rw a at good)))
      (λ a.
      by_test (eqb tag 2)
      (λ b. omega (arith, rw b at (after_other a).1, hop_long (length v) (rw (eqb-true tag 2 b) at good)))
      (λ b. omega (arith, rw b at (after_other a).1)))

  after_few : room_good (so_far l c) tag ≡ true → length l ≤ 16 → counted_by (length l) tag ≤ 16
  unfolding counted_by room_good
  after_few r h = by_test (eqb tag 1) (λ a. rw a (omega (arith, ltb-true (length l) 16 (rw a at r)))) (λ a. rw a h)

-- no refusal has the code 0
code_some : (e : Refusal) → code_of e ≡ 0 → ⊥
code_some R.FileLong z = cc
code_some R.FieldCut z = cc
code_some R.BadLength z = cc
code_some R.OutOfPlace z = cc
code_some R.BadValue z = cc
code_some R.NicknameMet z = cc
code_some R.TooMany z = cc
code_some R.SerialMet z = cc
code_some R.EntryUnknown z = cc
code_some R.TraceShort z = cc

pub done_long : (s : List ℕ) → 32768 < length s → refused 40 ≡ described s
unfolding described
done_long s h = rw (lt-ltb file_most (length s) h)

-- what the loop keeps
pub record Holding (s w starts : List ℕ) (n : ℕ) (clock : Option ℕ) (at : ℕ) : Type 0 where
  pub within : at ≤ length s
  pub sixteen : length starts ≡ 16
  pub words : words_for (length s) ≤ length w
  pub switches : List Settings
  pub count : length switches ≡ n
  pub few : n ≤ 16
  pub stores : Stores w starts switches
  pub span : 11 * span_of switches ≤ 4 * at
  pub fuel : ℕ
  pub enough : length s ≤ at + fuel
  pub rest : described_from (so_far switches (clock_at s clock)) (fields_from (suc fuel) s at) ≡ described s

pub holding_begin : (s w starts : List ℕ) → length s ≤ 32768 → length starts ≡ 16 → words_for (length s) ≤ length w → Holding s w starts 0 None 0
unfolding described fields
holding_begin s w starts h l e =
    record {
      within = omega arith;
      sixteen = l;
      words = e;
      switches = [];
      count = refl;
      few = omega arith;
      stores = tt;
      span = omega (arith, span_none);
      fuel = length s;
      enough = omega arith;
      rest = rw (le-ltb file_most (length s) h);
    }

module _ {s w starts : List ℕ} {n : ℕ} {clock : Option ℕ} {at : ℕ} (h : Holding s w starts n clock at) where
  abbrev d : Described
  d = so_far h.switches (clock_at s clock)

  pub done_ended : length s ≤ at → refused 43 ≡ described s
  done_ended l = sym (described_none d refl) ∙ (rw (fields_end h.fuel s at l) at h.rest)

  module _ (more : at < length s) where
    span_room : span_of h.switches + 6 ≤ length w
    span_room =
        by_test (leb (length s) 5808)
        (λ t. omega (arith, rw t at h.words))
        (λ f. omega (arith, rw f at h.words, span_most w starts h.switches h.stores))

    pub holding_kept : Kept w starts n
    holding_kept =
        let sound = stores_sound w starts h.switches h.stores n h.count (omega (arith, span_room)) (omega arith) in
        let end = rw h.count at (end_is w starts h.switches h.stores) in
        let room : end_of w starts n + 6 ≤ length w = omega (arith, span_room) in
        search

    module _ (read : Option FieldRead) (q : read ≡ field_at s at) where
      pub done_cut : read ≡ None → refused 41 ≡ described s
      unfolding field_refusal
      done_cut e = sym (described_refused d cut [] (omega arith)) ∙ (rw (fields_cut h.fuel s at more (sym q ∙ e)) at h.rest)

      module _ (u : FieldRead) (t : read ≡ Some u) (code : ℕ) (w' starts' : List ℕ)
          (took : Took w starts n clock u.tag (part s (at + 3) (u.next - (at + 3))) code w' starts') where
        abbrev v : List ℕ
        v = part s (at + 3) (u.next - (at + 3))

        its : IsField s at u
        its = field_read s at u (sym q ∙ t)

        v_long : length v ≡ u.next - (at + 3)
        v_long = length_part s (at + 3) (u.next - (at + 3)) (omega (arith, its))

        less : suc (h.fuel - 1) ≡ h.fuel
        less = omega (arith, its)

        first_field : described_from d (field u.tag v ∷ fields_from h.fuel s u.next) ≡ described s
        first_field =
            let its_size : u.next - (at + 3) ≡ u.length = omega (arith, its) in
            rw its_size (rw (fields_on h.fuel s at u more (sym q ∙ t)) at h.rest)

        code_is : code ≡ field_refusal d (field u.tag v)
        code_is = took.checked h.switches (clock_at s clock) h.stores h.count (clock_known s clock)

        pub done_refused : (e : Refusal) → code ≡ code_of e → refused (code_of e) ≡ described s
        done_refused e c =
            rw (← c, code_is)
            (sym (described_refused d (field u.tag v) (fields_from h.fuel s u.next) (λ y. code_some e (sym c ∙ code_is ∙ y))) ∙ first_field)

        module _ (z : code ≡ 0) where
          passed : Passed d u.tag v
          passed = passes d u.tag v (sym code_is ∙ z)

          with_next_lem : described_from (with_next d (field u.tag v)) (fields_from h.fuel s u.next) ≡ described s
          with_next_lem = sym (described_on d (field u.tag v) (fields_from h.fuel s u.next) (sym code_is ∙ z)) ∙ first_field

          stored : Stores w' starts' (with_next d (field u.tag v)).switches
          stored = took.stored h.switches (clock_at s clock) h.stores h.count z

          next_is : (u.tag ≡ 5 → ⊥) → so_far (with_next d (field u.tag v)).switches (clock_at s (clocked_by clock u.tag at)) ≡ with_next d (field u.tag v)
          unfolding with_next clocked_by length_good
          next_is five =
              by_test (eqb u.tag 1) (λ a. rw (eqb-true u.tag 1 a)) (λ a.
              by_test (eqb u.tag 4)
              (λ b.
              let six : u.next - (at + 3) ≡ 6 = sym v_long ∙ eqb-true (length v) 6 (rw (eqb-true u.tag 4 b) at passed.its_length) in
              rw (a, b, six))
              (λ b. rw (a, b, ne_eqb u.tag 5 five)))

          pub holding_on : (u.tag ≡ 5 → ⊥) → {clock₁ clock' : Option ℕ} {n₁ n' : ℕ} → clock₁ ≡ clock → n₁ ≡ n → clock' ≡ clocked_by clock₁ u.tag at → n' ≡ counted_by n₁ u.tag
              → Holding s w' starts' n' clock' u.next
          holding_on five {n' = n'} sc sn ec₁ en₁ =
              let ec = rw sc at ec₁ in
              let en = rw sn at en₁ in
              let counted : counted_by (length h.switches) u.tag ≡ n' = rw h.count (sym en) in
              record {
                within = its.within;
                sixteen = took.starts_size ∙ h.sixteen;
                words = omega arith;
                switches = (with_next d (field u.tag v)).switches;
                count = after_count h.switches (clock_at s clock) u.tag v ∙ counted;
                few = omega (arith, after_few h.switches (clock_at s clock) u.tag v passed.has_room (omega (arith, h.count, h.few)));
                stores = stored;
                span = omega (arith, after_span h.switches (clock_at s clock) u.tag v passed.its_length, v_long, its);
                fuel = h.fuel - 1;
                enough = omega (arith, its);
                rest = rw (less, ec, next_is five) with_next_lem;
              }

          -- the entry field, and what stands behind it
          module _ (five : u.tag ≡ 5) where
            abbrev entered : Described
            entered = record { switches = h.switches; clock = clock_at s clock; entry = switch_named h.switches (be16 v 0); frame = drop 2 v }

            entered_is : with_next d (field u.tag v) ≡ entered
            unfolding with_next
            entered_is = rw five

            entered_rest : described_from entered (fields_from (suc (h.fuel - 1)) s u.next) ≡ described s
            entered_rest = rw (← entered_is, less) with_next_lem

            entered_known : known entered.entry ≡ true
            unfolding entry_known
            entered_known = rw five at passed.is_known

            whole_value : length s ≤ u.next → entry_value s at ≡ v
            whole_value l =
                let e : length s ≡ u.next = omega (arith, its) in
                sym (between_there s (at + 3) (length s) (omega (arith, its)) (omega arith)) ∙ ap (λ (x : ℕ). part s (at + 3) (x - (at + 3))) e

            pub done_entered : {n₁ : ℕ} {clock₁ : Option ℕ} → n₁ ≡ n → clock₁ ≡ clock → 0 ≡ code_after s u.next → Accepts s w' starts' n₁ clock₁ at
            done_entered sn sc z =
                rw (sn, sc)
                (by_test (leb (length s) u.next)
                (λ b.
                let l = leb-true (length s) u.next b in
                record {
                  switches = h.switches;
                  is = rw (whole_value l) (sym entered_rest ∙ rw (fields_end (h.fuel - 1) s u.next l) (described_end entered entered_known));
                  stores = rw (ap (λ (x : Described). x.switches) entered_is) at stored;
                  count = h.count;
                  few = omega (arith, took.starts_size);
                  span = omega (arith, span_room);
                  entry_in = omega (arith, its);
                })
                (λ b. absurd ((behind s u.next (leb-false (length s) u.next b) entered entered_known (h.fuel - 1)).1 (sym z))))

            pub done_behind : (e : Refusal) → code_of e ≡ code_after s u.next → refused (code_of e) ≡ described s
            done_behind e c =
                by_test (leb (length s) u.next)
                (λ b. absurd (code_some e (c ∙ sym (after_end s u.next (leb-true (length s) u.next b)))))
                (λ b. rw c (sym (behind s u.next (leb-false (length s) u.next b) entered entered_known (h.fuel - 1)).0 ∙ entered_rest))

pub ruleset holding = (holding_begin, holding_kept, holding_on)

pub ruleset read_laws = (rules, taken, done_long, done_ended, done_cut, done_refused, done_entered, done_behind, holding)
