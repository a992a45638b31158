-- The ranks met, the filter that stands for them, and what the loop over the settings fields keeps, from the first field to the verdict: the records
-- read so far and the ranks met agree, and the rest of the fields decides as the whole does. By induction on the ranks, by cases on tests, and by one
-- law of fields and of settings for each step.
use Rattle.std.specs.Prelude.{Option, Some, None}
use mathlib.Core.Path.{◌≡◌, refl, sym, ◌∙◌}
use mathlib.Core.List.{List, [], ◌∷◌, ◌++◌, append_assoc}
use mathlib.Core.Bool.{Bool, true, false, not, ◌&&◌, ◌||◌, or_assoc, true≢false, false≢true}
use Prim.Native.Nat.{ℕ, suc, ◌+◌, ◌*◌, ◌<◌, ◌≤◌, ◌-◌}
use native.Mathlib.Omega.{arith}
use borrow.Author.Rules.{rules}
use borrow.Author.Tests.{eq-eqb, ne_eqb, lt-ltb, le-ltb, not-true, not-false}
use lib.Dec.{eqb}
use lib.ListN.{length, get_or, take, set, length-set, replicate, length-append}
use lib.Seq.{get_or-set_same, get_or-set_other, take-nil, take-append-add}
use Rattle.rules.specs as rules
use rules.{Octets.part, Campus.known}
use rules.Fields.{hop_size, field, cut, field_at, fields_at, length_good}
use rules.Settings.{hop_good, hop_of, Settings, serial_met, with_field, opens, opened, continues, settings_from, settings_of}
use Rattle.rules.proofs as rule_laws
use rule_laws.TestLaws.{and_no, or_no, or_yes, by_test, by_equal, by_order}
use Rattle.octets.specs.Flags.{flag_by}
use Rattle.octets.proofs.FlagLaws.{flag_continues}
use Rattle.handler.specs
use specs.Ranks.{rank_of, mix_of, slot_by, mark_by, marked_by, covers_by, rank_met, ranks_in, ranks_met, with_rank, ranks_with}
use specs.Ranks.{Kept, hop_taken, field_taken, Taking, Verdict}
use rule_laws.FieldLaws.{field_read, fields_at_end, fields_at_cut, fields_at_on}
use rules.declared.{NextHop.NextHop, FieldRead.FieldRead}
use rule_laws.{SettingsLaws.from_on, SettingsLaws.from_bad, Taken.taken}
use rule_laws.FirstLaws.{continues_cut, first, settings_open}

-- the ranks among the fields from a place on, by the field there
module _ (s : List ℕ) (at : ℕ) where
  ranks_none : at < length s → field_at s at ≡ None → ranks_in (fields_at s at) ≡ []
  unfolding ranks_in
  ranks_none h c = rw (fields_at_cut s at h c)

  module _ (u : FieldRead) (t : field_at s at ≡ Some u) where
    abbrev value : List ℕ
    value = part s (at + 3) (u.next - (at + 3))

    pub fields_next : fields_at s at ≡ field u.tag value ∷ fields_at s u.next
    fields_next =
        let i = field_read s at u t in
        let the_size : u.next - (at + 3) ≡ u.length = omega (arith, i) in
        rw the_size (fields_at_on s at u (omega (arith, i)) t)

    ranks_hop : u.tag ≡ 2 → ranks_in (fields_at s at) ≡ rank_of (hop_of value) ∷ ranks_in (fields_at s u.next)
    unfolding ranks_in
    ranks_hop two = rw (fields_next, two)

    ranks_flag : (u.tag ≡ 2 → ⊥) → ranks_in (fields_at s at) ≡ ranks_in (fields_at s u.next)
    unfolding ranks_in
    ranks_flag other = rw (fields_next, ne_eqb u.tag 2 other)

-- the look at the first n records: whether the rank is among those left is whether it is met
pub record Looking (s : List ℕ) (from n rank left at : ℕ) : Type 0 where
  pub same : rank_met rank (take left (ranks_in (fields_at s at))) ≡ rank_met rank (ranks_met s from n)

pub look_begins : (s : List ℕ) (from n rank : ℕ) → Looking s from n rank n from
look_begins s from n rank = record { same = refl }

module _ (s : List ℕ) (from n rank left at : ℕ) (l : Looking s from n rank left at) where
  pub look_done : left ≡ 0 → false ≡ rank_met rank (ranks_met s from n)
  unfolding rank_met
  look_done z = rw z at l.same

  pub look_end : length s ≤ at → false ≡ rank_met rank (ranks_met s from n)
  unfolding rank_met ranks_in
  look_end h = rw (fields_at_end s at h, take-nil) at l.same

  module _ (read : Option FieldRead) (q : read ≡ field_at s at) where
    pub look_cut : at < length s → read ≡ None → false ≡ rank_met rank (ranks_met s from n)
    unfolding rank_met
    look_cut h c = rw (ranks_none s at h (sym q ∙ c), take-nil) at l.same

    module _ (u : FieldRead) (t : read ≡ Some u) where
      pub look_past : (u.tag ≡ 2 → ⊥) → Looking s from n rank left u.next
      look_past other = record { same = rw (ranks_flag s at u (sym q ∙ t) other) at l.same }

      module _ (two : u.tag ≡ 2) (more : left ≡ 0 → ⊥) (k : ℕ) (is : k ≡ rank_of (hop_of (part s (at + 3) (u.next - (at + 3))))) where
        split : (fewer : ℕ) → left ≡ suc fewer → (eqb k rank || rank_met rank (take fewer (ranks_in (fields_at s u.next)))) ≡ rank_met rank (ranks_met s from n)
        unfolding rank_met
        split fewer more = rw is (rw (ranks_hop s at u (sym q ∙ t) two, more) at l.same)

        pub look_found : k ≡ rank → true ≡ rank_met rank (ranks_met s from n)
        look_found e = rw (eq-eqb k rank e) at (split (left - 1) (omega (arith, more)))

        pub look_on : (k ≡ rank → ⊥) → (fewer : ℕ) → fewer ≡ left - 1 → Looking s from n rank fewer u.next
        look_on e fewer less = record { same = rw (ne_eqb k rank e) at (split fewer (omega (arith, more))) }

pub ruleset met_laws = (rules, taken, look_begins, look_done, look_end, look_cut, look_past, look_found, look_on)

pub uncovered : (old mark : ℕ) → (old ≡ mark → ⊥) → (old ≡ 255 → ⊥) → covers_by old mark ≡ false
unfolding covers_by
uncovered old mark h k = rw (ne_eqb old mark h, ne_eqb old 255 k)

-- one more rank
pub met_snoc : (rank k : ℕ) (ranks : List ℕ) → rank_met rank (ranks ++ (k ∷ [])) ≡ (rank_met rank ranks || eqb k rank)
unfolding rank_met
met_snoc rank k [] = or_no (eqb k rank)
met_snoc rank k (q ∷ ranks) = rw (met_snoc rank k ranks, or_assoc)

-- ranks are equal exactly where destinations and serials are
pub rank_same : (a b c d : ℕ) → b < 4294967296 → d < 4294967296 → eqb (a * 4294967296 + b) (c * 4294967296 + d) ≡ (eqb a c && eqb b d)
rank_same a b c d hb hd =
    let left = a * 4294967296 + b in
    let right = c * 4294967296 + d in
    by_equal a c
    (λ x. by_equal b d
    (λ y. rw (eq-eqb a c x, eq-eqb b d y) (eq-eqb left right (omega arith)))
    (λ y. rw (ne_eqb b d y, and_no) (ne_eqb left right (λ h. y (omega arith)))))
    (λ x. rw (ne_eqb a c x) (ne_eqb left right (λ h. x (omega arith))))

-- once one more rank is there, a slot has that rank and those it had
cover_new : (old mark : ℕ) → covers_by (marked_by old mark) mark ≡ true
unfolding covers_by marked_by
cover_new old mark = by_equal old 0 (λ e. rw (e, eq-eqb mark mark refl)) (λ o. rw (ne_eqb old 0 o, or_yes))

cover_kept : (old mark mixed : ℕ) → covers_by old (mark_by mixed) ≡ true → covers_by (marked_by old mark) (mark_by mixed) ≡ true
unfolding covers_by marked_by mark_by
cover_kept old mark mixed c =
    by_equal old 0 (λ e. absurd (false≢true (rw (e, ne_eqb 0 (mark_by mixed) (omega arith)) at c))) (λ o. rw (ne_eqb old 0 o, or_yes))

still_covered : (seen : List ℕ) (slot mark j mixed : ℕ) → slot < length seen → covers_by (get_or seen j 0) (mark_by mixed) ≡ true
    → covers_by (get_or (set seen slot (marked_by (get_or seen slot 0) mark)) j 0) (mark_by mixed) ≡ true
still_covered seen slot mark j mixed h c =
    let new = marked_by (get_or seen slot 0) mark in
    by_equal j slot
    (λ same. rw (same, get_or-set_same seen slot new 0 h) (cover_kept (get_or seen slot 0) mark mixed (rw same at c)))
    (λ other. rw (get_or-set_other seen slot j new 0 other) c)

-- a rank and its mark in its slot
module _ (met seen : List ℕ) (rank slot mark : ℕ) (k : Kept met seen) (is : slot ≡ slot_by (mix_of rank)) (h : slot < 256)
    (made : mark ≡ mark_by (mix_of rank)) where
  abbrev seen' : List ℕ
  seen' = set seen slot (marked_by (get_or seen slot 0) mark)

  -- a slot that shows no such rank
  unshown : covers_by (get_or seen slot 0) mark ≡ false → rank_met rank met ≡ false
  unshown e =
      by_test (rank_met rank met) (λ yes. absurd (true≢false (sym (k.marked rank yes) ∙ (rw (is, made) at e)))) (λ unmet. unmet)

  more_kept : Kept (met ++ (rank ∷ [])) seen'
  more_kept =
      let in_seen : slot < length seen = omega (arith, k.seen_long) in
      record {
        seen_long = rw length-set k.seen_long;
        marked = λ other e.
            by_equal rank other
            (λ same. rw (← same, ← is, ← made, get_or-set_same seen slot (marked_by (get_or seen slot 0) mark) 0 in_seen) (cover_new (get_or seen slot 0) mark))
            (λ apart.
            still_covered seen slot mark (slot_by (mix_of other)) (mix_of other) in_seen
            (k.marked other (sym (or_no (rank_met other met)) ∙ (rw (met_snoc other rank met, ne_eqb rank other apart) at e))));
      }

refused : {good : Bool} {met seen : List ℕ} → good ≡ false → Taking good met false seen
refused e = record { validated = e; kept = λ h. absurd (true≢false (sym h)) }

-- the ways out of one more record, over what the code tests
module _ (met seen : List ℕ) (n size : ℕ) (r : NextHop) where
  abbrev pub AdmitTo : Bool → List ℕ → Type 0
  AdmitTo taken = Taking (hop_taken met n size r) (with_rank met r) taken

  pub admit_short : (sized : Bool) → sized ≡ hop_size size → not sized ≡ true → AdmitTo false seen
  unfolding hop_taken
  admit_short sized is t = refused (rw (← is, not-true sized t))

  pub admit_bad : (good : Bool) → good ≡ hop_good r → not good ≡ true → AdmitTo false seen
  unfolding hop_taken
  admit_bad good is t = refused (rw (← is, not-true good t, and_no))

  pub admit_full : 64 ≤ n → AdmitTo false seen
  unfolding hop_taken
  admit_full h = refused (rw (le-ltb n 64 h, and_no, and_no))

  module _ (rank mixed slot mark : ℕ) (its_rank : rank ≡ rank_of r) (its_mix : mixed ≡ mix_of rank) (its_slot : slot ≡ slot_by mixed)
      (its_mark : mark ≡ mark_by mixed) (h : slot < 256) (k : Kept met seen) where
    -- a slot that shows no such rank
    pub admit_shows : covers_by (get_or seen slot 0) mark ≡ false → rank_met rank met ≡ false
    admit_shows = unshown met seen rank slot mark k (rw its_mix at its_slot) h (rw its_mix at its_mark)

    pub admit_met : (new : Bool) → new ≡ not (rank_met rank met) → not new ≡ true → AdmitTo false seen
    unfolding hop_taken
    admit_met new is t = refused (rw (← its_rank, ← is, not-true new t, and_no, and_no))

    module _ (sized : Bool) (e_s : sized ≡ hop_size size) (s : not sized ≡ false) (good : Bool) (e_g : good ≡ hop_good r) (g : not good ≡ false)
        (room : n < 64) where
      admitted : rank_met rank met ≡ false → AdmitTo true (set seen slot (marked_by (get_or seen slot 0) mark))
      unfolding hop_taken
      admitted unmet =
          record {
            validated = rw (← its_rank, unmet, ← e_s, ← e_g, not-false sized s, not-false good g, lt-ltb n 64 room);
            kept = λ _. rw (← its_rank) (more_kept met seen rank slot mark k (rw its_mix at its_slot) h (rw its_mix at its_mark));
          }

      pub admit_first : get_or seen slot 0 ≡ 0 → AdmitTo true (set seen slot mark)
      unfolding marked_by covers_by mark_by
      admit_first free =
          let shown : covers_by (get_or seen slot 0) mark ≡ false = rw (free, ne_eqb 0 mark (omega arith)) in
          rw (eq-eqb (get_or seen slot 0) 0 free) at (admitted (admit_shows shown))

      pub admit_new : (get_or seen slot 0 ≡ 0 → ⊥) → (new : Bool) → new ≡ not (rank_met rank met) → not new ≡ false → AdmitTo true (set seen slot 255)
      unfolding marked_by
      admit_new other new is t =
          rw (ne_eqb (get_or seen slot 0) 0 other) at (admitted (not-true (rank_met rank met) (sym is ∙ not-false new t)))

pub ruleset admit_laws = (rules, admit_short, admit_bad, admit_full, admit_shows, admit_met, admit_first, admit_new)

serial_snoc : (r q : NextHop) (hops : List NextHop)
    → serial_met r (hops ++ (q ∷ [])) ≡ (serial_met r hops || (eqb q.destination r.destination && eqb q.serial r.serial))
unfolding serial_met
serial_snoc r q [] = or_no (eqb q.destination r.destination && eqb q.serial r.serial)
serial_snoc r q (p ∷ hops) = rw (serial_snoc r q hops, or_assoc)

-- as many ranks as records, and a rank met where a serial is
pub record Agree (hops : List NextHop) (met : List ℕ) : Type 0 where
  pub count : length hops ≡ length met
  pub alike : (r : NextHop) → r.serial < 4294967296 → serial_met r hops ≡ rank_met (rank_of r) met

agree_more : (hops : List NextHop) (met v : List ℕ) → Agree hops met → Agree (hops ++ (hop_of v ∷ [])) (with_rank met (hop_of v))
agree_more hops met v a =
    record {
      count = rw (length-append, length-append, a.count);
      alike = λ r h.
          rw (
            serial_snoc r (hop_of v) hops,
            met_snoc (rank_of r) (rank_of (hop_of v)) met,
            a.alike r h,
            rank_same (hop_of v).destination (hop_of v).serial r.destination r.serial (omega arith) h,
          );
    }

agree_with : (T : Settings) (tag : ℕ) (v met : List ℕ) → Agree T.hops met → Agree (with_field T (field tag v)).hops (ranks_with met tag v)
unfolding with_field ranks_with
agree_with T tag v met a =
    by_test (eqb tag 2)
    (λ e. rw e (agree_more T.hops met v a))
    (λ e. by_test (eqb tag 3) (λ f. rw (e, f) a) (λ f. by_test (eqb tag 6) (λ g. rw (e, f, g) a) (λ g. rw (e, f, g) a)))

module _ (T : Settings) (v met : List ℕ) (n : ℕ) where
  continues_hop : length T.hops ≡ n → serial_met (hop_of v) T.hops ≡ rank_met (rank_of (hop_of v)) met → continues T (field 2 v) ≡ field_taken met n 2 v
  unfolding continues length_good field_taken hop_taken
  continues_hop c e = rw (c, e)

  continues_taken : (tag : ℕ) → length met ≡ n → Agree T.hops met → continues T (field tag v) ≡ field_taken met n tag v
  unfolding field_taken
  continues_taken tag c a =
      by_equal tag 2
      (λ two. rw two (continues_hop (a.count ∙ c) (a.alike (hop_of v) (omega arith))))
      (λ other. rw (ne_eqb tag 2 other) (sym (flag_continues T tag v other)))

-- some settings with these ranks, from which the fields from `at` on decide as the whole does
pub record Rest (s : List ℕ) (whole : Option Settings) (met : List ℕ) (at : ℕ) : Type 0 where
  pub read : Settings
  pub decides : settings_from read (fields_at s at) ≡ whole
  pub agree : Agree read.hops met

-- what the loop keeps
pub record Validating (s : List ℕ) (from : ℕ) (seen : List ℕ) (n at : ℕ) : Type 0 where
  pub kept : Kept (ranks_met s from n) seen
  pub few : n ≤ 64
  pub many : length (ranks_met s from n) ≡ n
  pub split : ranks_in (fields_at s from) ≡ ranks_met s from n ++ ranks_in (fields_at s at)
  pub rest : (T : Settings) → T.hops ≡ [] → Rest s (settings_from T (fields_at s from)) (ranks_met s from n) at

pub begins : (s : List ℕ) (from : ℕ) → Validating s from (replicate 256 0) 0 from
unfolding serial_met rank_met
begins s from =
    record {
      kept = record { seen_long = refl; marked = λ rank e. absurd (false≢true e) };
      few = omega arith;
      many = refl;
      split = refl;
      rest = λ T e. record { read = T; decides = refl; agree = rw e (record { count = refl; alike = λ r h. refl }) };
    }

-- one more rank behind those met
grown : (ranks met rest : List ℕ) (k n : ℕ) → ranks ≡ met ++ (k ∷ rest) → length met ≡ n → take (n + 1) ranks ≡ met ++ (k ∷ [])
grown ranks met rest k n e c = rw (e, ← c) (take-append-add met (k ∷ rest) 1)

module _ {s : List ℕ} {from : ℕ} {seen : List ℕ} {n at : ℕ} (j : Validating s from seen n at) where
  abbrev met : List ℕ
  met = ranks_met s from n

  pub ends : length s ≤ at → Verdict s from true
  unfolding settings_from
  ends h T e = let w = j.rest T e in rw (← w.decides, fields_at_end s at h)

  module _ (h : at < length s) {read : Option FieldRead} (q : read ≡ field_at s at) where
    pub cut_off : read ≡ None → Verdict s from false
    cut_off c T e =
        let w = j.rest T e in
        rw (← w.decides, fields_at_cut s at h (sym q ∙ c), from_bad w.read cut [] (continues_cut w.read))

    module _ {u : FieldRead} (taken : read ≡ Some u) where
      abbrev v : List ℕ
      v = part s (at + 3) (u.next - (at + 3))

      pub on : fields_at s at ≡ field u.tag v ∷ fields_at s u.next
      on = fields_next s at u (sym q ∙ taken)

      validated_so : (T : Settings) (e : T.hops ≡ []) {b : Bool} → field_taken met n u.tag v ≡ b → continues (j.rest T e).read (field u.tag v) ≡ b
      validated_so T e g = continues_taken (j.rest T e).read v met n u.tag j.many (j.rest T e).agree ∙ g

      pub stops : field_taken met n u.tag v ≡ false → Verdict s from false
      stops g T e =
          let w = j.rest T e in
          rw (← w.decides, on, from_bad w.read (field u.tag v) (fields_at s u.next) (validated_so T e g))

      rest_on : field_taken met n u.tag v ≡ true → (T : Settings) → T.hops ≡ [] → Rest s (settings_from T (fields_at s from)) (ranks_with met u.tag v) u.next
      rest_on g T e =
          let w = j.rest T e in
          record {
            read = with_field w.read (field u.tag v);
            decides = rw (← from_on w.read (field u.tag v) (fields_at s u.next) (validated_so T e g), ← on) w.decides;
            agree = agree_with w.read u.tag v met w.agree;
          }

      -- a record
      module _ (two : u.tag ≡ 2) where
        pub hop_stops : hop_taken met n (length v) (hop_of v) ≡ false → Verdict s from false
        unfolding field_taken
        hop_stops g = stops (rw two g)

        pub hop_on : {seen' : List ℕ} → hop_taken met n (length v) (hop_of v) ≡ true → Kept (with_rank met (hop_of v)) seen' → Validating s from seen' (n + 1) u.next
        unfolding field_taken ranks_with hop_taken
        hop_on g k =
            let ranks = ranks_in (fields_at s from) in
            let rest = ranks_in (fields_at s u.next) in
            let parts : ranks ≡ met ++ (rank_of (hop_of v) ∷ rest) = rw (ranks_hop s at u (sym q ∙ taken) two) at j.split in
            let more = grown ranks met rest (rank_of (hop_of v)) n parts j.many in
            record {
              kept = rw more k;
              few = by_order n 64 (λ h. omega arith) (λ h. absurd (false≢true (rw (le-ltb n 64 h, and_no, and_no) at g)));
              many = rw (more, length-append, j.many);
              split = rw (more, append_assoc) parts;
              rest = λ T e. rw more (rw two at (rest_on (rw two g) T e));
            }

      -- a flag
      module _ (other : u.tag ≡ 2 → ⊥) {code : ℕ} (is : code ≡ flag_by u.tag v) where
        pub flag_stops : (code ≡ 0 → ⊥) → Verdict s from false
        unfolding field_taken
        flag_stops z = stops (rw (ne_eqb u.tag 2 other, ← is) (ne_eqb code 0 z))

        pub flag_on : code ≡ 0 → Validating s from seen n u.next
        unfolding field_taken ranks_with
        flag_on z =
            record {
              kept = j.kept;
              few = j.few;
              many = j.many;
              split = rw (ranks_flag s at u (sym q ∙ taken) other) at j.split;
              rest = rw (ne_eqb u.tag 2 other) at (rest_on (rw (ne_eqb u.tag 2 other, ← is) (eq-eqb code 0 z)));
            }

-- the first field
module _ (s : List ℕ) {u : FieldRead} (e : field_at s 0 ≡ Some u) where
  pub settings_so : (r : Bool) → opens (field u.tag (part s 3 (u.next - 3))) ≡ true → Verdict s u.next r → r ≡ known (settings_of s)
  unfolding opened
  settings_so r o d =
      let f = field u.tag (part s 3 (u.next - 3)) in
      rw (settings_open s f (fields_at s u.next) (first s e) o) (d (opened f) refl)
