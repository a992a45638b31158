-- Settings octets into a store as the code does it: one law for each need of the loops, of one more field, and of the whole. By position, and by the
-- laws of insertion, of fields and of settings for each step.
use Rattle.std.proofs.lemmas.Option.{same_Some}
use Rattle.std.specs.Prelude.{if◌then◌else◌, Option, Some, None}
use Prim.Native.Nat.{ℕ, ◌+◌, ◌-◌, ◌*◌, ◌/◌, ◌%◌, ◌≤◌, ◌<◌}
use mathlib.Core.Path.{◌≡◌, refl, sym, ap, ◌∙◌}
use mathlib.Core.List.{List, [], ◌∷◌, ◌++◌}
use mathlib.Core.Bool.{Bool, true, false, not, ◌&&◌, not-not, false≢true}
use native.Mathlib.Omega.{arith}
use native.Mathlib.Nat.{zero-add, lt_of_lt_of_le}
use borrow.Author.Rules.{rules}
use borrow.Author.Tests.{ne_eqb, eq-eqb, not-true, not-false}
use lib.Dec.{ltb, eqb}
use lib.ListN.{length, get_or, set, take, drop, length-set, length-append, length-drop, get_or-append}
use lib.Seq.{get_or-set_other, sets-eq, drop_at, length-take-le}
use Rattle.octets.specs.Words.{be64}
use Rattle.octets.proofs.{Hops.hop_same, WordLaws.first_part, WordLaws.rest_part}
use Rattle.rules.specs as rules
use rules.Octets.{put, octet, be16, be48, part}
use rules.Fields.{Field, field, cut, field_at, fields_at, fields, hop_size, length_good}
use rules.Settings.{Settings, hop_good, with_field, continues, settings_from, settings_of, opens, opened, switch_of, ways_of, nickname_valid, mac_good}
use rules.{Settings.hop_of, Settings.switch_good, Campus.known}
use rules.declared.{FieldRead.FieldRead, NextHop.NextHop}
use Rattle.rules.proofs as rule_laws
use rule_laws.TriedLaws.{tried}
use rule_laws.TestLaws.{apart, by_test, and_true, tests}
use rule_laws.{HandlingLaws.settings_good, Taken.taken, Taken.taken_first}
use rule_laws.FieldLaws.{IsField, field_read, fields_at_end, fields_at_cut, fields_at_on}
use rule_laws.SettingsLaws.{from_on, from_bad, from_read}
use Rattle.stores.specs
use specs.Store.{count_in, handled_in, Stands, Roomy, Filled, Fills, Hinted, preparing, Prepared}
use specs.Insert.{first_word, second_word, met_in, inserted_in}
use specs.Extend.{with_switch, opens_in, Opens, room_in, count_by, met_by, added_to, record_code, flag_code, flag_word, FlagIn, extending}
use specs.Extend.{extended, with_record, Extends}
use Rattle.octets.specs.{Flags.flag_tag, Flags.flag_value, Flags.flag_by, Records.record_of, Records.hop_by}
use Rattle.octets.specs.declared.values.Record.{Record}
use rule_laws.FirstLaws.{continues_cut, opened_field, first, settings_open, settings_bad_lem, settings_cut, switch_fold}
use Rattle.stores.proofs
use proofs.InsertLaws.{inserted_long}
use proofs.ExtendLaws.{Ample, record_long, extending_continues, extended_stands, extended_long, extended_few, switch_stands}
use proofs.ExtendLaws.{switch_counts, switch_long, says, room_parts, is_good, stands_too}

-- what the number of records says of the room for one more
module _ (w : List ℕ) (o : Option ℕ) (is : o ≡ count_by w) where
  full_so : o ≡ None → room_in w ≡ false
  unfolding count_by
  full_so e = by_test (room_in w) (λ t. apart (cc (rw t at is, e))) (λ f. f)

  module _ (n : ℕ) (h : o ≡ Some n) where
    room_so : room_in w ≡ true
    unfolding count_by
    room_so = by_test (room_in w) (λ t. t) (λ f. apart (cc (rw f at is, h)))

    pub admit_count : n ≡ count_in w
    unfolding count_by
    admit_count = same_Some n (count_in w) (sym h ∙ rw room_so at is)

    pub admit_few : n < 64
    admit_few = omega (arith, admit_count, room_parts w room_so)

    pub admit_room : 6 + 2 * n ≤ length w
    admit_room = omega (arith, admit_count, room_parts w room_so)

    -- words with one more record, or as they were, are as many
    pub added_long : (u : List ℕ) (r : NextHop) → u ≡ added_to w r → length u ≡ length w
    added_long u r q =
        let has = room_parts w room_so in
        by_test (met_by w r) (λ t. rw (q, t)) (λ t. rw (q, t) (record_long {r = r} (record { few = has.1; room = has.2; new = t })))

-- a record: one law for each way that it is refused, and one where it is taken
module _ (w v : List ℕ) where
  by_code : (code : ℕ) (u : List ℕ) → code ≡ extending w 2 v → u ≡ (if not (eqb code 0) then w else with_record w (hop_of v)) → Extends w 2 v code u
  unfolding extended
  by_code code u e q = record { code = e; words = q ∙ rw (extended, e) }

  pub admit_long : (sized : Bool) → sized ≡ hop_size (length v) → not sized ≡ true → Extends w 2 v 42 w
  unfolding extending record_code length_good
  admit_long sized is t = by_code 42 w (cc) refl

  module _ (sized : Bool) (s_is : sized ≡ hop_size (length v)) (long : not sized ≡ false) (r : Record) (read : r ≡ record_of v)
      (ok : Bool) (g : ok ≡ hop_good (hop_by r)) where
    hop_is : hop_by r ≡ hop_of v
    hop_is = rw read (hop_same v)

    code_is : extending w 2 v ≡ (if not ok then 44 else if not (room_in w) then 46 else if met_by w (hop_of v) then 47 else 0)
    unfolding extending record_code length_good
    code_is =
        let good : hop_good (hop_of v) ≡ ok = ap hop_good (sym hop_is) ∙ sym g in
        rw (record_code, ← s_is, long, good)

    pub admit_bad : not ok ≡ true → Extends w 2 v 44 w
    admit_bad n = by_code 44 w (rw (code_is, n)) refl

    module _ (n : not ok ≡ false) (o : Option ℕ) (c : o ≡ count_by w) where
      pub admit_full : o ≡ None → Extends w 2 v 46 w
      admit_full f = by_code 46 w (rw (code_is, n, full_so w o c f)) refl

      module _ (i : ℕ) (f : o ≡ Some i) (put : Bool) (p : put ≡ not (met_by w (hop_by r))) (u : List ℕ) (q : u ≡ added_to w (hop_by r)) where
        met_not : met_by w (hop_of v) ≡ not put
        met_not = ap (λ (x : NextHop). met_by w x) (sym hop_is) ∙ rw (p, not-not)

        added : u ≡ (if not put then w else with_record w (hop_of v))
        added = q ∙ ap (λ (x : NextHop). added_to w x) hop_is ∙ rw met_not

        pub admit_met : not put ≡ true → Extends w 2 v 47 u
        admit_met t = by_code 47 u (rw (code_is, n, room_so w o c i f, met_not, t)) (added ∙ rw t)

        pub admit_taken : not put ≡ false → Extends w 2 v 0 u
        admit_taken t = by_code 0 u (rw (code_is, n, room_so w o c i f, met_not, t)) (added ∙ rw t)

pub ruleset admit_laws = (rules, admit_long, admit_bad, admit_full, admit_met, admit_taken, admit_count, admit_few, admit_room, added_long)

-- the record put in and counted
module _ (w : List ℕ) (r : NextHop) (n first second : ℕ) (c : n ≡ count_in w) (k : first ≡ first_word r) (x : second ≡ second_word r)
    (put : Bool) (p : put ≡ not (met_in w n (first / 65536))) (u : List ℕ) (q : u ≡ inserted_in w n first second) where
  rank_met_lem : met_in w n (first / 65536) ≡ not put
  rank_met_lem = rw (p, not-not)

  pub add_met : not put ≡ true → false ≡ not (met_by w r)
  add_met t = cc rank_met_lem

  pub add_same : not put ≡ true → u ≡ added_to w r
  unfolding inserted_in
  add_same t = cc rank_met_lem

  pub add_taken : not put ≡ false → true ≡ not (met_by w r)
  add_taken t = cc rank_met_lem

  pub add_words : not put ≡ false → set u 3 (n + 1) ≡ added_to w r
  add_words t = cc rank_met_lem

pub add_size : (u w : List ℕ) (n first second : ℕ) → u ≡ inserted_in w n first second → 6 + 2 * n ≤ length w → length u ≡ length w
add_size u w n first second q long = rw q (inserted_long w n first second long)

pub ruleset add_laws = (rules, add_met, add_same, add_taken, add_words, add_size)

-- a flag
abbrev after : Bool → Bool → Bool → ℕ → ℕ
after is_flag long good code = if not is_flag then 43 else if not long then 42 else if not good then 44 else code

asked_last : (a b c : Bool) (code : ℕ) → after a b c code ≡ (if eqb (after a b c 0) 0 then code else after a b c 0)
asked_last false b c code = refl
asked_last true false c code = refl
asked_last true true false code = refl
asked_last true true true code = refl

module _ (w : List ℕ) (tag : ℕ) (v : List ℕ) (code : ℕ) (is : code ≡ flag_by tag v) where
  by_room : flag_code w tag v ≡ (if eqb code 0 then (if ltb (length w) 4 then 46 else 0) else code)
  unfolding flag_code
  by_room = rw is (asked_last (flag_tag tag) (eqb (length v) 1) (flag_value tag v) (if ltb (length w) 4 then 46 else 0))

  refused_flag : (r : ℕ) → (r ≡ 0 → ⊥) → flag_code w tag v ≡ r → FlagIn w tag v r w
  refused_flag r n e = record { code = sym e; words = simp (e, tests) }

  pub flag_refused : (code ≡ 0 → ⊥) → FlagIn w tag v code w
  flag_refused n = refused_flag code n (by_room ∙ simp tests)

  module _ (z : code ≡ 0) where
    pub flag_short : length w < 4 → FlagIn w tag v 46 w
    flag_short l = refused_flag 46 (omega arith) (by_room ∙ simp (z, tests))

    pub flag_taken : 4 ≤ length w → (c : ℕ) → c ≡ flag_word (get_or w 2 0) tag (octet v 0) → FlagIn w tag v 0 (set w 2 c)
    flag_taken l c q =
        let taken : flag_code w tag v ≡ 0 = by_room ∙ simp (z, tests) in
        record { code = sym taken; words = rw (q, taken) }

pub ruleset flag_laws = (rules, tried, flag_refused, flag_short, flag_taken)

-- the word of the flags
module _ (x tag : ℕ) (v : List ℕ) (o : ℕ) (is : o ≡ octet v 0) where
  pub word_strip : tag ≡ 3 → x / 2 % 2 * 2 + o ≡ flag_word x tag (octet v 0)
  word_strip e = rw (e, is)

  module _ (n : tag ≡ 3 → ⊥) where
    pub word_two : o ≡ 2 → 2 + x % 2 ≡ flag_word x tag (octet v 0)
    word_two e = rw (ne_eqb tag 3 n, ← is, e)

    pub word_one : (o ≡ 2 → ⊥) → x % 2 ≡ flag_word x tag (octet v 0)
    word_one e = rw (ne_eqb tag 3 n, ← is, ne_eqb o 2 e, zero-add)

pub ruleset flag_word_laws = (rules, word_strip, word_two, word_one)

-- by the tag
module _ (w : List ℕ) (tag : ℕ) (v : List ℕ) (r : ℕ) (u : List ℕ) where
  pub extend_2 : tag ≡ 2 → Extends w 2 v r u → Extends w tag v r u
  extend_2 e t = rw e t

  pub extend_flag : (tag ≡ 2 → ⊥) → FlagIn w tag v r u → Extends w tag v r u
  unfolding extending extended
  extend_flag n t =
      by_test (eqb (flag_code w tag v) 0)
      (λ z. record { code = simp (extending, tests) t.code; words = t.words ∙ simp (extended, extending, tests, z) })
      (λ z. record { code = simp (extending, tests) t.code; words = t.words ∙ simp (extended, extending, tests, z) })

  pub flag_same : FlagIn w tag v r u → length u ≡ length w
  flag_same t = by_test (eqb (flag_code w tag v) 0) (λ z. rw (t.words, z, length-set)) (λ z. rw (t.words, z))

  pub extend_long : Extends w tag v r u → length u ≡ length w
  extend_long e = rw e.words (extended_long w tag v)

pub ruleset extend_laws = (rules, extend_2, extend_flag, flag_same, extend_long)

roomy_ample : {w : List ℕ} → Roomy w → Ample w
roomy_ample r = omega arith

-- the fields from a place on: what is left decides as the whole does
pub record Left (s : List ℕ) (whole : Option Settings) (w : List ℕ) (at : ℕ) : Type 0 where
  pub read : Settings
  pub decides : settings_from read (fields_at s at) ≡ whole
  pub stands : Stands w read

pub record Filling (s : List ℕ) (from : ℕ) (w v : List ℕ) (at : ℕ) : Type 0 where
  pub within : at ≤ length s
  pub roomy : Roomy v
  pub left : (T : Settings) → Stands w T → Left s (settings_from T (fields_at s from)) v at

module _ (s : List ℕ) (from : ℕ) (w : List ℕ) where
  pub filling_begin : from ≤ length s → Roomy w → Filling s from w w from
  filling_begin h r = record { within = h; roomy = r; left = λ T t. record { read = T; decides = refl; stands = t } }

  module _ (v : List ℕ) (at : ℕ) (l : Filling s from w v at) where
    pub filling_end : length s ≤ at → Fills s from w true v
    unfolding settings_from
    filling_end h =
        record {
          filled = λ T t.
              let r = l.left T t in
              rw (← r.decides, fields_at_end s at h) (refl, r.stands);
          roomy = λ e. l.roomy;
        }

    -- a field that does not go with what was read
    stopped : (f : Field) (fs : List Field) → fields_at s at ≡ f ∷ fs → ((T : Settings) → Stands v T → continues T f ≡ false) → (u : List ℕ)
        → Fills s from w false u
    stopped f fs is bad u =
        record {
          filled = λ T t.
              let r = l.left T t in
              rw (← r.decides, is, from_bad r.read f fs (bad r.read r.stands));
          roomy = λ e. absurd (false≢true e);
        }

    module _ (h : at < length s) (read : Option FieldRead) (q : read ≡ field_at s at) where
      pub filling_cut : read ≡ None → Fills s from w false v
      filling_cut c = stopped cut [] (fields_at_cut s at h (sym q ∙ c)) (λ T t. continues_cut T) v

      module _ (e : FieldRead) (t : read ≡ Some e) (r : ℕ) (u : List ℕ) (step : Extends v e.tag (part s (at + 3) (e.next - (at + 3))) r u) where
        abbrev value : List ℕ
        value = part s (at + 3) e.length

        its : IsField s at e
        its = field_read s at e (sym q ∙ t)

        on : fields_at s at ≡ field e.tag value ∷ fields_at s e.next
        on = fields_at_on s at e h (sym q ∙ t)

        stepped : Extends v e.tag value r u
        stepped =
            let same : e.next - (at + 3) ≡ e.length = omega (arith, its) in
            rw same at step

        checks : (T : Settings) → Stands v T → eqb r 0 ≡ continues T (field e.tag value)
        checks T st = rw stepped.code (extending_continues v T st (roomy_ample l.roomy) e.tag value)

        pub filling_bad : (r ≡ 0 → ⊥) → Fills s from w false u
        filling_bad n = stopped (field e.tag value) (fields_at s e.next) on (λ T st. sym (checks T st) ∙ ne_eqb r 0 n) u

        pub filling_on : r ≡ 0 → Filling s from w u e.next
        filling_on n =
            record {
              within = its.within;
              roomy =
                  rw stepped.words
                  (record { size = extended_long v e.tag value ∙ l.roomy.size; most = extended_few v e.tag value l.roomy.most });
              left = λ T st.
                  let x = l.left T st in
                  let ok : continues x.read (field e.tag value) ≡ true = sym (checks x.read x.stands) ∙ eq-eqb r 0 n in
                  record {
                    read = with_field x.read (field e.tag value);
                    decides = rw (← from_on x.read (field e.tag value) (fields_at s e.next) ok, ← on) x.decides;
                    stands = rw stepped.words (extended_stands v x.read x.stands (roomy_ample l.roomy) value e.tag (sym stepped.code ∙ n));
                  };
            }

pub ruleset fill_from_laws = (rules, tried, taken, extend_long, filling_begin, filling_end, filling_cut, filling_bad, filling_on)

-- the switch alone
pub open_is : (w v : List ℕ) (n : ℕ) → 4 ≤ length w → n ≡ be64 v 0
    → set (set (set (set w 0 (n / 281474976710656)) 1 (n * 65536 % 18446744073709551616 + 8947)) 2 0) 3 0 ≡ with_switch w v
unfolding put
open_is w v n long is =
    let name = first_part v 0 n is in
    let mac : n * 65536 % 18446744073709551616 ≡ be48 v 2 * 65536 = omega (arith, rest_part v 0 n is) in
    rw (name, mac) (sets-eq (be16 v 0 ∷ (be48 v 2 * 65536 + 8947) ∷ 0 ∷ 0 ∷ []) w 0 long)

pub ruleset open_laws = (rules, open_is, lt_of_lt_of_le)

-- a store opened for a switch is roomy, and stands for it
module _ (w v u : List ℕ) (is : u ≡ with_switch w v) (long : length w ≡ 164) where
  pub open_stands : Stands u (switch_of v)
  open_stands = rw is (switch_stands w v (omega arith))

  pub open_roomy : Roomy u
  open_roomy = rw is (record { size = switch_long w v (omega arith) ∙ long; most = omega (arith, switch_counts w v (omega arith)) })

-- hints
pub hinting_begin : (w : List ℕ) → Hinted w w
hinting_begin w = record { size = refl; before = λ j h. refl }

pub hinting_on : (w v : List ℕ) (k x : ℕ) → Hinted w v → Hinted w (set v (132 + k) x)
hinting_on w v k x h =
    record { size = rw length-set h.size; before = λ j b. get_or-set_other v (132 + k) j x 0 (omega arith) ∙ h.before j b }

pub ruleset hint_all_laws = (rules, hinting_begin, hinting_on)

-- the fields from a place on, with hints or without: other hints stand for the same
module _ (s : List ℕ) (from : ℕ) (w : List ℕ) (r : Bool) (u : List ℕ) (f : Fills s from w r u) where
  pub fill_bad : not r ≡ true → Fills s from w false u
  fill_bad n = rw (not-true r n) at f

  pub fills_roomy : not r ≡ false → Roomy u
  fills_roomy n = f.roomy (not-false r n)

  pub fill_hinted : (y : List ℕ) → not r ≡ false → Hinted u y → Fills s from w true y
  fill_hinted y n h =
      let roomy = fills_roomy n in
      record {
        filled = λ T st. hinted roomy (settings_from T (fields_at s from)) (rw (not-false r n) at (f.filled T st));
        roomy = λ e. record { size = h.size ∙ roomy.size; most = omega (arith, h.before 3 (omega arith), roomy.most) };
      }
    where
      hinted : Roomy u → (o : Option Settings) → Filled u o true → Filled y o true
      hinted roomy None e = e
      hinted roomy (Some T) e = (e.0, stands_too u y T (λ j b. h.before j (omega (arith, roomy.most))) e.1)

pub ruleset fill_laws = (rules, fill_bad, fill_hinted, fills_roomy)

-- the whole: one law for each way out
unknown : (w : List ℕ) (o : Option Settings) → false ≡ known o → Filled w o false
unknown w None e = refl
unknown w (Some T) e = absurd (false≢true e)

module _ (s : List ℕ) (read : Option FieldRead) (q : read ≡ field_at s 0) where
  pub prepare_cut : (w : List ℕ) → read ≡ None → Filled w (settings_of s) false
  prepare_cut w c = unknown w (settings_of s) (settings_cut s (sym q ∙ c))

  module _ (e : FieldRead) (t : read ≡ Some e) (v : List ℕ) (held : v ≡ part s 3 (e.next - 3)) (o : Bool) (is : o ≡ opens (field e.tag v)) where
    opens_by : {b : Bool} → o ≡ b → opens (field e.tag (part s 3 (e.next - 3))) ≡ b
    opens_by b = sym (rw held at is) ∙ b

    pub prepare_shut : (w : List ℕ) → not o ≡ true → Filled w (settings_of s) false
    prepare_shut w n = unknown w (settings_of s) (settings_bad_lem s (sym q ∙ t) (opens_by (not-true o n)))

    pub prepare_filled : not o ≡ false → (w : List ℕ) → Stands w (switch_of v) → (r : Bool) (u : List ℕ) → Fills s e.next w r u → Filled u (settings_of s) r
    prepare_filled n w stands r u fills =
        let open_so = settings_open s (field e.tag (part s 3 (e.next - 3))) (fields_at s e.next) (first s (sym q ∙ t)) (opens_by (not-false o n)) in
        rw (open_so, opened_field, ← held) (fills.filled (switch_of v) stands)

pub ruleset prepare_laws = (rules, tried, taken, taken_first, open_stands, open_roomy, prepare_cut, prepare_shut, prepare_filled)

-- a store that stands for good settings says what they say
settings_named : (s : List ℕ) (T : Settings) → settings_of s ≡ Some T → nickname_valid T.nickname ≡ true
unfolding settings_of opens opened switch_good
settings_named s T e = go (fields s) refl
  where
    go : (l : List Field) → fields s ≡ l → nickname_valid T.nickname ≡ true
    go [] is = cc (rw (settings_of, is) at e)
    go (cut ∷ fs) is = cc (rw (settings_of, is) at e)
    go (field tag v ∷ fs) is =
        by_test (opens (field tag v))
        (λ o.
        let whole = from_read (switch_of v) T fs (rw (settings_of, is, o) at e) in
        let good = (and_true (eqb tag 1 && length_good tag (length v)) (nickname_valid (be16 v 0) && mac_good (be48 v 2)) o).1 in
        rw (← whole, switch_fold (λ n m. n)) (and_true (nickname_valid (be16 v 0)) (mac_good (be48 v 2)) good).0)
        (λ o. cc (rw (settings_of, is, o) at e))

-- the call: one law for each way out
record Known (w : List ℕ) (o : Option Settings) : Type 0 where
  pub its : Settings
  pub is : o ≡ Some its
  pub stands : Stands w its

known_so : (w : List ℕ) (o : Option Settings) (ok : Bool) → Filled w o ok → ok ≡ true → Known w o
known_so w None ok f t = absurd (false≢true (sym f ∙ t))
known_so w (Some T) ok f t = record { its = T; is = refl; stands = f.1 }

module _ (s store w : List ℕ) (ok : Bool) (f : Filled w (settings_of s) ok) where
  refusal : (r : ℕ) → 0 < r → r ≡ preparing s (length store) → Prepared s store store r
  refusal r z e =
      record { answered = e; refused = λ n. refl; says = λ T n. absurd (omega arith); handles = λ n. absurd (omega arith); beyond = refl }

  pub prepared_bad : ok ≡ false → Prepared s store store 1
  unfolding preparing
  prepared_bad n = refusal 1 (omega arith) (answered (settings_of s) refl f)
    where
      answered : (o : Option Settings) → settings_of s ≡ o → Filled w o ok → 1 ≡ preparing s (length store)
      answered None e g = rw (preparing, e)
      answered (Some T) e g = cc (n, g.0)

  module _ (n : ok ≡ true) where
    its_known : Known w (settings_of s)
    its_known = known_so w (settings_of s) ok f n

    pub prepared_short : length store < 164 → Prepared s store store 2
    unfolding preparing
    prepared_short h = refusal 2 (omega arith) (simp (preparing, its_known.is, tests))

    pub prepared_so : (now : List ℕ) → now ≡ w → length w ≡ 164 → 164 ≤ length store → Prepared s store (now ++ drop 164 store) 0
    unfolding preparing handled_in
    prepared_so now same long room =
        let T = its_known.its in
        let e = its_known.is in
        let out : List ℕ = now ++ drop 164 store in
        let whole : out ≡ w ++ drop 164 store = rw same in
        let word : (j : ℕ) → j < 164 → get_or out j 0 ≡ get_or w j 0 = λ j h. rw whole (get_or-append w (drop 164 store) 0 j (omega arith)) in
        let st = stands_too w out T (λ j h. word j (omega (arith, its_known.stands.records.ordered.few))) its_known.stands in
        let size : length out ≡ length store = rw (whole, length-append, length-drop) (omega arith) in
        let good = is_good out T st (settings_named s T e) (omega (arith, st.records.ordered.few)) in
        record {
          answered = simp (preparing, e, tests);
          refused = λ z. absurd (z refl);
          says = λ U z g. (good, says out T st ∙ ap ways_of (cc (sym e ∙ g)));
          handles = λ z clock r b frame. rw (good, says out T st) (sym (settings_good s clock r b frame T e));
          beyond = rw whole (drop_at w (drop 164 store) 164 long);
        }

pub store_begins : (store w : List ℕ) → 164 ≤ length store → length w ≡ 164 → length (take 164 store) ≡ length w
store_begins store w h long = length-take-le 164 store h ∙ sym long

pub ruleset trill_prepare_laws = (rules, tried, prepared_bad, prepared_short, prepared_so, store_begins)

-- a store opened by a caller: one law for each way out
module _ (w v : List ℕ) where
  shut : opens_in w v ≡ false → Opens w v false w
  shut e = record { answer = sym e; words = rw e }

  pub store_short : length w < 4 → Opens w v false w
  unfolding opens_in
  store_short h = shut (simp (opens_in, tests))

  module _ (long : 4 ≤ length w) (o : Bool) (is : o ≡ opens (field 1 v)) where
    opens_is : opens_in w v ≡ o
    unfolding opens_in
    opens_is = simp (opens_in, is, tests)

    pub store_shut : not o ≡ true → Opens w v false w
    store_shut n = shut (opens_is ∙ not-true o n)

    pub store_opened : (u : List ℕ) → not o ≡ false → u ≡ with_switch w v → Opens w v true u
    store_opened u n e =
        let t = opens_is ∙ not-false o n in
        record { answer = sym t; words = rw t e }

pub ruleset store_open_laws = (rules, store_short, store_shut, store_opened)
