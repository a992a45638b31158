-- One pass over settings octets that validates them and finds the record that rules for a destination: what the loop keeps is what validation keeps and what
-- two folds over the fields keep, and what the folds say of the settings read. By one law of fields for each step, and by induction on the fields.
use Rattle.rules.specs.Answer.{code_by}
use Rattle.rules.specs.declared.Refusal.{Refusal}
use Rattle.rules.proofs.TriedLaws.{code_refused, code_none}
use Rattle.std.specs.Prelude.{Result, is_err, Option, Some, None}
use Rattle.rules.specs.Settings.{Settings, newer, ruling, switch_of, hop_of, with_field, opened, settings_read, opens, settings_of}
use Rattle.rules.specs.declared.{NextHop.NextHop, FieldRead.FieldRead}
use Rattle.handler.specs
use specs.Shapes.{Owns, switch_at, ruled_by, no_flags, flagged_by, FoldedFrom}
use Rattle.handler.proofs
use proofs.{ValidationLaws.cut_off, ValidationLaws.flag_stops, ValidationLaws.Validating}
use specs.Ranks.{ranks_met, hop_taken, with_rank, Taking, Verdict, Scanned, ScanFinds, Validates}
use mathlib.Core.Path.{◌≡◌, refl, sym, ap, subst, ◌∙◌}
use mathlib.Core.List.{List, [], ◌∷◌, foldl, foldl-append}
use mathlib.Core.Bool.{true, not, Bool, false}
use Rattle.rules.specs.Answer.{code_by}
use Rattle.rules.specs.declared.Refusal.{Refusal}
use Rattle.rules.proofs.TriedLaws.{code_refused, code_none}
use Prim.Native.Nat.{ℕ, ◌+◌, ◌-◌, ◌*◌, ◌/◌, ◌%◌, ◌≤◌, ◌<◌}
use native.Mathlib.Omega.{arith}
use borrow.Author.Rules.{rules}
use borrow.Author.Tests.{ltb-true, ltb-false, ne_eqb, eqb-true, not-true, not-false}
use lib.Dec.{ltb, eqb}
use lib.ListN.{length, replicate}
use Rattle.rules.specs.Octets.{be16, be48, part}
use Rattle.rules.specs.Campus.{known}
use Rattle.rules.specs.Fields.{Field, field, cut, field_at, fields_at, fields}
use Rattle.rules.proofs.{TestLaws.by_test, FieldLaws.fields_at_end, FieldLaws.fields_at_cut, Taken.taken_first, Taken.taken_to, Taken.taken}
use Rattle.rules.proofs.FirstLaws.{opened_field, first, switch_fold, settings_cut, settings_bad_lem as not_opened}
use Rattle.octets.specs.{Flags.flag_tag, Flags.flag_by, Records.record_of, Records.hop_by}
use Rattle.octets.specs.declared.values.Record.{Record}
use specs.declared.validation.{Flags.Flags, Scan.Scan}
use Rattle.octets.specs.Words.{be64}
use Rattle.octets.proofs.{FlagLaws.flag_is, Hops.hop_same}
use Rattle.stores.specs.Store.{unless_withdrawn}
use Rattle.stores.proofs.LookupLaws.{next_hop_lem}
use Rattle.handler.proofs.ValidationLaws as J

-- a fold over the fields, as far as the loop has come
pub record Folding {A : Type 0} (step : A → Field → A) (start : A) (s : List ℕ) (from at : ℕ) (acc : A) : Type 0 where
  pub gives : foldl step acc (fields_at s at) ≡ foldl step start (fields_at s from)

module _ {A : Type 0} {step : A → Field → A} {start : A} {s : List ℕ} {from at : ℕ} {acc : A} (w : Folding step start s from at acc) where
  fold_end : length s ≤ at → FoldedFrom step start s from acc
  fold_end h = ap (foldl step acc) (sym (fields_at_end s at h)) ∙ w.gives

  fold_on : {f : Field} {next : ℕ} {acc' : A} → fields_at s at ≡ f ∷ fields_at s next → acc' ≡ step acc f → Folding step start s from next acc'
  fold_on on a = record { gives = rw a (ap (foldl step acc) (sym on) ∙ w.gives) }

-- the settings read, by the first field
module _ (s : List ℕ) where
  read_cut : field_at s 0 ≡ None → settings_read s ≡ switch_of []
  unfolding settings_read fields opened
  read_cut e =
      by_test (ltb 0 (length s))
      (λ t. rw (settings_read, fields_at_cut s 0 (ltb-true 0 (length s) t) e))
      (λ t. rw (settings_read, fields_at_end s 0 (ltb-false 0 (length s) t)))

  module _ {u : FieldRead} (e : field_at s 0 ≡ Some u) where
    read_on : settings_read s ≡ foldl with_field (switch_of (part s 3 (u.next - 3))) (fields_at s u.next)
    unfolding settings_read
    read_on = rw (settings_read, first s e, opened_field u.tag (part s 3 (u.next - 3)))

-- what one more field does to the nickname and MAC, the flags and the record that rules
abbrev pub flags_of : Settings → Flags
flags_of S = record { strip = S.strip; rfc7179 = S.rfc7179 }

module _ (S : Settings) where
  flags_with : (f : Field) → flags_of (with_field S f) ≡ flagged_by (flags_of S) f
  unfolding with_field flagged_by
  flags_with cut = refl
  flags_with (field tag v) =
      by_test (eqb tag 2)
      (λ e. rw (eqb-true tag 2 e))
      (λ e. by_test (eqb tag 3) (λ f. rw (e, f)) (λ f. by_test (eqb tag 6) (λ g. rw (e, f, g)) (λ g. rw (e, f, g))))

ruling_none : (d : ℕ) → ruling [] d ≡ None
unfolding ruling
ruling_none d = refl

ruling_with : (d : ℕ) (S : Settings) (f : Field) → ruling (with_field S f).hops d ≡ ruled_by d (ruling S.hops d) f
unfolding with_field ruled_by ruling
ruling_with d S cut = refl
ruling_with d S (field tag v) =
    by_test (eqb tag 2)
    (λ e. rw e (foldl-append (newer d) None S.hops (hop_of v ∷ [])))
    (λ e. by_test (eqb tag 3) (λ f. rw (e, f)) (λ f. by_test (eqb tag 6) (λ g. rw (e, f, g)) (λ g. rw (e, f, g))))

-- and what all do
fold_along : {A : Type 0} (said : Settings → A) (step : A → Field → A) → ((S : Settings) (f : Field) → said (with_field S f) ≡ step (said S) f)
    → (S : Settings) (fs : List Field) → said (foldl with_field S fs) ≡ foldl step (said S) fs
fold_along said step with S [] = refl
fold_along said step with S (f ∷ fs) = fold_along said step with (with_field S f) fs ∙ ap (λ (a : _). foldl step a fs) (with S f)

-- of settings whose first field is taken
module _ (s : List ℕ) {u : FieldRead} (e : field_at s 0 ≡ Some u) where
  pub flags_read : (r : Flags) → FoldedFrom flagged_by no_flags s u.next r → r ≡ flags_of (settings_read s)
  flags_read r f = cc (read_on s e, fold_along flags_of flagged_by flags_with (switch_of (part s 3 (u.next - 3))) (fields_at s u.next))

  pub as_folded : (d : ℕ) (b : Option NextHop) → FoldedFrom (ruled_by d) None s u.next b → ruling (settings_read s).hops d ≡ b
  as_folded d b f =
      cc (
        read_on s e,
        fold_along (λ S. ruling S.hops d) (ruled_by d) (ruling_with d) (switch_of (part s 3 (u.next - 3))) (fields_at s u.next),
        ruling_none d,
      )

-- our nickname and MAC, as the code reads the first field
module _ (s : List ℕ) (read : Option FieldRead) (is : read ≡ field_at s 0) where
  pub own_cut : read ≡ None → Owns (record { nickname = 0; word = 0 }) (switch_at s)
  own_cut e = rw (read_cut s (sym is ∙ e)) (record { named = refl; addressed = refl })

  pub own_read : (u : FieldRead) → read ≡ Some u → (n m : ℕ) → n ≡ be16 (part s 3 (u.next - 3)) 0 → m ≡ be64 (part s 3 (u.next - 3)) 0
      → Owns (record { nickname = n; word = m * 65536 % 18446744073709551616 }) (switch_at s)
  own_read u e n m en em =
      let v = switch_of (part s 3 (u.next - 3)) in
      let high : m * 65536 % 18446744073709551616 / 65536 ≡ be48 (part s 3 (u.next - 3)) 2 = omega arith in
      rw (read_on s (sym is ∙ e))
      (record {
        named = en ∙ sym (switch_fold (λ n m. n) v (fields_at s u.next));
        addressed = high ∙ sym (switch_fold (λ n m. m) v (fields_at s u.next));
      })

pub ruleset own_of_laws = (rules, taken_first, taken_to, own_cut, own_read)

-- what the loop keeps
pub record Scanning (s : List ℕ) (from d : ℕ) (seen : List ℕ) (n : ℕ) (best : Option NextHop) (flags : Flags) (at : ℕ) : Type 0 where
  pub validating : Validating s from seen n at
  pub ruled : Folding (ruled_by d) None s from at best
  pub flagged : Folding flagged_by no_flags s from at flags

pub scan_begin : (s : List ℕ) (from d : ℕ) → Scanning s from d (replicate 256 0) 0 None no_flags from
scan_begin s from d = record { validating = J.begins s from; ruled = record { gives = refl }; flagged = record { gives = refl } }

module _ (s : List ℕ) (from d : ℕ) (seen : List ℕ) (n : ℕ) (best : Option NextHop) (flags : Flags) (at : ℕ) (l : Scanning s from d seen n best flags at) where
  pub scan_end : length s ≤ at → ScanFinds s from d (record { flags = flags; best = best })
  scan_end h = record { verdict = J.ends l.validating h; ruled = fold_end l.ruled h; flagged = fold_end l.flagged h }

  module _ (h : at < length s) (read : Option FieldRead) (q : read ≡ field_at s at) where
    module _ (u : FieldRead) (t : read ≡ Some u) where
      abbrev v : List ℕ
      v = part s (at + 3) (u.next - (at + 3))

      module _ (two : u.tag ≡ 2) (r : Record) (its : r ≡ record_of v) (taken : Bool) (seen' : List ℕ)
          (k : Taking (hop_taken (ranks_met s from n) n (length v) (hop_by r)) (with_rank (ranks_met s from n) (hop_by r)) taken seen') where
        hop_is : hop_by r ≡ hop_of v
        hop_is = rw its (hop_same v)

        step : Taking (hop_taken (ranks_met s from n) n (length v) (hop_of v)) (with_rank (ranks_met s from n) (hop_of v)) taken seen'
        step =
            subst (λ (x : NextHop). Taking (hop_taken (ranks_met s from n) n (length v) x) (with_rank (ranks_met s from n) x) taken seen') hop_is k

        pub scan_hop_bad : not taken ≡ true → Verdict s from false
        scan_hop_bad x = J.hop_stops l.validating h q t two (step.validated ∙ not-true taken x)

        pub scan_hop : (best' : Option NextHop) → best' ≡ newer d best (hop_by r) → not taken ≡ false → (m : ℕ) → m ≡ n + 1
            → Scanning s from d seen' m best' flags u.next
        unfolding ruled_by flagged_by
        scan_hop best' e x m is =
            let on = J.on l.validating h q t in
            let yes = not-false taken x in
            rw is
            (record {
              validating = J.hop_on l.validating h q t two (step.validated ∙ yes) (step.kept yes);
              ruled = fold_on l.ruled on (cc hop_is);
              flagged = fold_on l.flagged on (rw two);
            })

      module _ (other : u.tag ≡ 2 → ⊥) {A : Type 0} (r : Result A Refusal) (is : code_by r ≡ flag_by u.tag v) (b : Bool) (k : b ≡ is_err r) where
        pub scan_flag_bad : b ≡ true → Verdict s from false
        scan_flag_bad x = J.flag_stops l.validating h q t other is (code_refused r b k x)

        pub scan_flag : (flags' : Flags) → flags' ≡ flagged_by flags (field u.tag v) → b ≡ false → Scanning s from d seen n best flags' u.next
        unfolding ruled_by
        scan_flag flags' e x =
            let on = J.on l.validating h q t in
            record {
              validating = J.flag_on l.validating h q t other is (code_none r b k x);
              ruled = fold_on l.ruled on (rw (ne_eqb u.tag 2 other));
              flagged = fold_on l.flagged on e;
            }

        pub scan_tag : b ≡ false → flag_tag u.tag ≡ true
        scan_tag x = flag_is u.tag v (sym is ∙ code_none r b k x)

pub ruleset scan_laws =
    (rules, taken, scan_begin, scan_end, cut_off, scan_hop_bad, scan_hop, scan_flag_bad, scan_flag, scan_tag)

-- the whole
module _ (s : List ℕ) (d : ℕ) (read : Option FieldRead) (q : read ≡ field_at s 0) where
  pub validated_cut : read ≡ None → known (settings_of s) ≡ false
  validated_cut c = sym (settings_cut s (sym q ∙ c))

  module _ (u : FieldRead) (t : read ≡ Some u) (v : List ℕ) (held : v ≡ part s 3 (u.next - 3)) (o : Bool) (is : o ≡ opens (field u.tag v)) where
    pub validated_shut : not o ≡ true → known (settings_of s) ≡ false
    validated_shut x = sym (not_opened s (sym q ∙ t) (sym (rw held at is) ∙ not-true o x))

    module _ (x : not o ≡ false) where
      so : (good : Bool) → Verdict s u.next good → good ≡ known (settings_of s)
      so good v = J.settings_so s (sym q ∙ t) good (sym (rw held at is) ∙ not-false o x) v

      pub validated_bad : (r : Option Scan) → Scanned s u.next d r → r ≡ None → known (settings_of s) ≡ false
      validated_bad r y e = sym (so false (rw e at y))

      pub validated_scan : (scan : Scan) → ScanFinds s u.next d scan → (hop : Option NextHop) → hop ≡ unless_withdrawn scan.best
          → Validates s d (record { strip = scan.flags.strip; rfc7179 = scan.flags.rfc7179; hop = hop })
      validated_scan scan y hop z =
          let said = flags_read s (sym q ∙ t) scan.flags y.flagged in
          record {
            good = sym (so true y.verdict);
            says =
                record {
                  strips = ap (λ (x : Flags). x.strip) said;
                  edition = ap (λ (x : Flags). x.rfc7179) said;
                  leads = cc (as_folded s (sym q ∙ t) d scan.best y.ruled, next_hop_lem (settings_read s) d);
                };
          }

pub ruleset validate_laws = (rules, taken, taken_first, validated_cut, validated_shut, validated_bad, validated_scan)
