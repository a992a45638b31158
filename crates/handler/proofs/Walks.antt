-- One option by its ways out; a walk: what was met and written so far, with what is found from here on, is what is found in all; the area by its summary.
use Rattle.std.specs.Prelude.{if◌then◌else◌, Result, Ok, Err}
use mathlib.Core.Path.{◌≡◌, refl, sym, ap, ◌∙◌}
use mathlib.Core.List.{List, [], ◌∷◌, ◌++◌, append_assoc, append-nil}
use mathlib.Core.Bool.{Bool, true, false, not, ◌&&◌, ◌||◌}
use Prim.Native.Nat.{ℕ, suc, ◌+◌, ◌-◌, ◌%◌, ◌≤◌, ◌<◌}
use native.Mathlib.Omega.{arith}
use borrow.Author.Rules.{rules}
use borrow.Author.Tests.{eqb-true, ne_eqb, not-true, not-false}
use lib.ListN.{length, take, drop, get_or, replicate, take-append-drop, drop_of_length-le}
use lib.Seq.{drop-cons, take_all, length-take-le}
use Rattle.rules.specs as rules
use rules.Octets.{be16, part, put}
use rules.Options.{Taken, TlvOption, Options, options, fault, key_of, length_of, option_size, option_first, option_at, options_from, options_of}
use rules.Options.{some_key, ie, hop_by_hop_critical, ingress_to_egress_critical, chbh, cite, summarized, draft_read, draft_stops}
use rules.Options.{strippable, octets_of}
use Rattle.rules.proofs.TestLaws.{by_test, and_left, and_no, and_yes, or_no, or_assoc, apart}
use Rattle.rules.proofs.OctetLaws.{length_part, length_put, be16_part}
use Rattle.rules.proofs.OptionLaws.{option_reserved, option_past, option_below, option_equal, option_taken, option_read, options_end, options_fault}
use Rattle.rules.proofs.OptionLaws.{options_on, walk_laid, kept_nothing, kept_not, kept_too, stripped_is, stripped_word}
use Rattle.octets.specs.Copy.{Wrote, fitting}
use Rattle.octets.proofs.Ends.{wrote_none, wrote_long, parts, copied, joined}
use Rattle.handler.specs
use specs.declared.options.{Cursor.Cursor, AreaFault.AreaFault}
use rules.declared.Number.{Number}
use rules.declared.Number.TheVariants.{ReservedLength, OptionCut, KeyBelow, KeyEqual, ChbhMissing, CiteMissing}
use specs.Shapes.{AreaWords, CursorIn, WholeOption, cursor_by, read_by, sent_of, options_sent, ended, found_by, walk_of}
use specs.Shapes.{AreaWalked, OptionsChecked, summarized_by, area_read_of, AreaKept, AllKept}
use Rattle.rules.specs.Options as O

-- one option, by its ways out
module _ {area : List ℕ} {c : Cursor} (o : CursorIn area c) (more : c.at < length area) where
  pub option_there : c.at + 4 ≤ length area
  option_there = omega arith

  module _ (strip : Bool) (w : ℕ) (word : w ≡ be16 (part area c.at (c.at + 4 - c.at)) 0) (n : ℕ) (its_length : n ≡ length_of w) (size : ℕ)
      (sized : size ≡ option_size n) where
    abbrev found : O.OptionRead
    found = option_at area c.floor c.at

    here : be16 area c.at ≡ w
    here = sym (word ∙ be16_part area c.at (c.at + 4 - c.at) (omega arith))

    long : length_of (be16 area c.at) ≡ n
    long = rw (here, its_length)

    taken : c.at + option_size (length_of (be16 area c.at)) ≡ c.at + size
    taken = rw (long, ← sized)

    pub at_reserved : 119 ≤ n → Err (record { number = ReservedLength; place = c.at }) ≡ read_by strip c found
    at_reserved h = ap (read_by strip c) (option_reserved area c.floor c.at (rw long h))

    pub at_past : n < 119 → length area - c.at < size → Err (record { number = OptionCut; place = c.at }) ≡ read_by strip c found
    at_past h p = ap (read_by strip c) (option_past area c.floor c.at (rw long h) (rw taken (omega arith)))

    module _ (p : size ≤ length area - c.at) (key : ℕ) (its_key : key ≡ key_of w) where
      small : length_of (be16 area c.at) < 119
      small = rw long (omega arith)

      fits : c.at + option_size (length_of (be16 area c.at)) ≤ length area
      fits = rw taken (omega arith)

      keyed : key_of (be16 area c.at) ≡ key
      keyed = rw (here, its_key)

      pub at_below : key + 1 < c.floor → Err (record { number = KeyBelow; place = c.at }) ≡ read_by strip c found
      at_below k = ap (read_by strip c) (option_below area c.floor c.at small fits (rw keyed k))

      pub at_equal : key + 1 ≤ c.floor → c.floor ≤ key + 1 → Err (record { number = KeyEqual; place = c.at }) ≡ read_by strip c found
      at_equal k l = ap (read_by strip c) (option_equal area c.floor c.at small fits (rw keyed (omega arith)))

      pub at_whole : WholeOption c key n
      at_whole = record { its_key = omega (arith, its_key); short = omega arith; inside = omega arith; fewer = o.fewer }

      pub at_read : c.floor < key + 1 → (d : Cursor) → d ≡ cursor_by strip c key n (c.at + option_size n) → Ok d ≡ read_by strip c found
      at_read k d is = cc (option_taken area c.floor c.at small fits (rw keyed (omega arith)), keyed, long)

pub ruleset option_at_laws = (rules, option_there, at_reserved, at_past, at_below, at_equal, at_whole, at_read)

-- what is sent of an option and those after it
abbrev sent_if : Bool → List ℕ → List ℕ
sent_if gone octets = if gone then [] else octets

sent_first : (strip : Bool) (o : TlvOption) (os : List TlvOption)
    → octets_of (options_sent strip (o ∷ os)) ≡ sent_if (strip && strippable o.key o.size) o.octets ++ octets_of (options_sent strip os)
unfolding octets_of
sent_first false o os = refl
sent_first true o os = by_test (strippable o.key o.size) (λ e. rw (kept_not o os e, e)) (λ e. rw (kept_too o os e, e))

sent_none : (strip : Bool) → octets_of (options_sent strip []) ≡ []
unfolding octets_of
sent_none false = refl
sent_none true = rw kept_nothing

-- what one option adds to what is kept
record Adds (gone : Bool) (area : List ℕ) (at to size end : ℕ) : Type 0 where
  long : end ≡ to + length (sent_if gone (part area at size))
  most : end ≤ to + size
  words : size % 4 ≡ 0 → (end - to) % 4 ≡ 0
  lent : part area at (at + (end - to) - at) ≡ sent_if gone (part area at size)

adds : (gone : Bool) (area : List ℕ) (at to size : ℕ) → at + size ≤ length area → Adds gone area at to size (if gone then to else to + size)
adds true area at to size h =
    let none : at + (to - to) - at ≡ 0 = omega arith in
    record { long = omega arith; most = omega arith; words = λ m. omega arith; lent = rw none }
adds false area at to size h =
    let all : at + (to + size - to) - at ≡ size = omega arith in
    record { long = rw (length_part area at size h); most = omega arith; words = λ m. omega arith; lent = rw all }

-- a place in an area, with fuel enough for what is left
pub record Walking (strip : Bool) (area kept₀ kept : List ℕ) (c : Cursor) : Type 0 where
  pub fuel : ℕ
  pub enough : length area < c.at + suc fuel
  pub place : CursorIn area c
  pub written : List ℕ
  pub wrote : Wrote written 4 c.to kept₀ kept
  pub rest : walk_of strip c.hop c.egress written (options_from (suc fuel) area c.floor c.at) ≡ walk_of strip false false [] (options_of area)

-- an option in front
walk_first : (strip hop egress : Bool) (written : List ℕ) (o : TlvOption) (w : Options)
    → walk_of strip hop egress written (option_first o w)
    ≡ walk_of strip (hop || hop_by_hop_critical o.key) (egress || ingress_to_egress_critical o.key)
    (written ++ sent_if (strip && strippable o.key o.size) o.octets) w
unfolding some_key
walk_first strip hop egress written o (options os) =
    rw (
      or_assoc hop (hop_by_hop_critical o.key) (some_key hop_by_hop_critical os),
      or_assoc egress (ingress_to_egress_critical o.key) (some_key ingress_to_egress_critical os),
      sent_first strip o os,
      append_assoc written (sent_if (strip && strippable o.key o.size) o.octets) (octets_of (options_sent strip os)),
    )
walk_first strip hop egress written o (fault number place) = refl

walk_none : (strip hop egress : Bool) (written : List ℕ) → walk_of strip hop egress written (options []) ≡ ended hop egress written
unfolding some_key
walk_none strip hop egress written = rw (or_no hop, or_no egress, sent_none strip, append-nil written)

pub walk_begin : (strip : Bool) (area kept : List ℕ) → AreaWords area → 4 < length area
    → Walking strip area kept kept (record { at = 4; to = 4; floor = 0; hop = false; egress = false })
unfolding options_of
walk_begin strip area kept words h =
    record {
      fuel = length area;
      enough = omega arith;
      place = record { words = words; from = omega arith; aligned = refl; inside = omega arith; fewer = omega arith };
      written = [];
      wrote = wrote_none kept 4;
      rest = refl;
    }

-- by what is read, of one option and of all
by_read : {X : Type 0} (o : O.OptionRead) → ((m : Number) (q : ℕ) → o ≡ O.Fault m q → X) → ((key size next : ℕ) → o ≡ Taken key size next → X) → X
by_read (O.Fault m q) bad good = bad m q refl
by_read (Taken key size next) bad good = good key size next refl

by_options : {X : Type 0} (o : Options) → ((m : Number) (q : ℕ) → o ≡ fault m q → X) → ((os : List TlvOption) → o ≡ options os → X) → X
by_options (fault m q) bad good = bad m q refl
by_options (options os) bad good = good os refl

read_same : {c d : Cursor} → ◌≡◌ {A = Result Cursor AreaFault} (Ok c) (Ok d) → c ≡ d
read_same e = cc

-- what is known of the next place
abbrev lent_to : List ℕ → Cursor → Cursor → List ℕ
lent_to area c d = part area c.at (c.at + (d.to - c.to) - c.at)

record Next (strip : Bool) (area kept₀ kept : List ℕ) (c d : Cursor) : Type 0 where
  long : d.to ≡ c.to + length (lent_to area c d)
  most : d.to + c.at ≤ c.to + d.at
  words : (d.to - c.to) % 4 ≡ 0
  forth : c.at < d.at
  within : d.at ≤ length area
  on : (kept' : List ℕ) → kept' ≡ put kept c.to (lent_to area c d) → Walking strip area kept₀ kept' d

module _ {strip : Bool} {area kept₀ kept : List ℕ} {c : Cursor} (w : Walking strip area kept₀ kept c) (entry : length kept₀ ≡ 124) where
  wide : length kept ≡ 124
  wide = wrote_long w.wrote (omega arith) ∙ entry

  pub walk_end : length area ≤ c.at → AreaWalked strip area kept₀ kept (Ok c)
  walk_end h =
      record {
        written = w.written;
        found = cc (walk_none strip c.hop c.egress w.written, options_end w.fuel area c.floor c.at h);
        wrote = λ d e. rw (← read_same e) w.wrote;
        few = λ d e. rw (← read_same e) (omega arith);
        wide = wide;
      }

  module _ (h : c.at < length area) (read : Result Cursor AreaFault) (r : read ≡ read_by strip c (option_at area c.floor c.at)) where
    pub walk_stop : (x : AreaFault) → read ≡ Err x → AreaWalked strip area kept₀ kept read
    walk_stop x e =
        record {
          written = [];
          found =
              by_read (option_at area c.floor c.at)
              (λ m q f. cc (options_fault w.fuel area c.floor c.at m q h f))
              (λ key size next f. apart cc);
          wrote = λ d f. apart cc;
          few = λ d f. apart cc;
          wide = wide;
        }

    module _ (d : Cursor) (e : read ≡ Ok d) where
      next : Next strip area kept₀ kept c d
      next =
          by_read (option_at area c.floor c.at)
          (λ m q f. apart cc)
          (λ key size to f.
          let its = option_read area c.floor c.at key size to f in
          let gone = strip && strippable key size in
          let a = adds gone area c.at c.to (option_size size) (omega arith) in
          let fuel : suc (w.fuel - 1) ≡ w.fuel = omega arith in
          let step : to - c.at ≡ option_size size = omega arith in
          let o : TlvOption = record { key = key; size = size; octets = part area c.at (to - c.at) } in
          rw (← read_same (ap (read_by strip c) (sym f) ∙ sym r ∙ e))
          record {
            long = rw a.lent a.long;
            most = omega arith;
            words = a.words (omega arith);
            forth = omega arith;
            within = omega arith;
            on = λ kept' is.
                record {
                  fuel = w.fuel - 1;
                  enough = omega arith;
                  place = record { words = w.place.words; from = omega arith; aligned = omega arith; inside = omega arith; fewer = omega arith };
                  written = w.written ++ sent_if gone (part area c.at (option_size size));
                  wrote = joined w.wrote (record { ends = a.long; after = is ∙ rw a.lent });
                  rest =
                      cc (
                        fuel,
                        step,
                        walk_first strip c.hop c.egress w.written o (options_from w.fuel area (key + 1) to),
                        options_on w.fuel area c.floor c.at key size to h f,
                      );
                };
          })

      pub walk_back : c.to ≤ d.to
      walk_back = omega (arith, next.long)

      pub walk_within : c.at + (d.to - c.to) ≤ length area
      walk_within = omega (arith, next.most, next.within)

      pub walk_add : c.at + (d.to - c.to) < 18446744073709551616
      walk_add = omega (arith, walk_within)

      pub walk_room : c.to + length (lent_to area c d) ≤ length kept
      walk_room = omega (arith, wide, next.long, next.most, next.within)

      pub walk_words : length (lent_to area c d) % 4 ≡ 0
      walk_words = omega (arith, next.long, next.words)

      pub walk_less : length area - d.at < length area - c.at
      walk_less = omega (arith, next.forth, next.within)

      pub walk_on : (kept' : List ℕ) → kept' ≡ put kept c.to (lent_to area c d) → Walking strip area kept₀ kept' d
      walk_on = next.on

pub ruleset walk_area_laws = (rules, walk_begin, walk_end, walk_stop, walk_back, walk_within, walk_add, walk_room, walk_words, walk_less, walk_on)

-- a walk that writes nothing is one that writes all options, to octets that nobody has
pub record Checking (area : List ℕ) (c : Cursor) : Type 0 where
  pub kept₀ : List ℕ
  pub kept : List ℕ
  pub entry : length kept₀ ≡ 124
  pub walking : Walking false area kept₀ kept c

pub check_begin : (area : List ℕ) → AreaWords area → 4 < length area → Checking area (record { at = 4; to = 4; floor = 0; hop = false; egress = false })
check_begin area words h =
    let kept = replicate {A = ℕ} 124 0 in
    record { kept₀ = kept; kept = kept; entry = refl; walking = walk_begin false area kept words h }

module _ {area : List ℕ} {c : Cursor} (w : Checking area c) where
  pub check_end : length area ≤ c.at → OptionsChecked area (Ok c)
  check_end h = let x = walk_end w.walking w.entry h in record { written = x.written; found = x.found }

  module _ (h : c.at < length area) (read : Result Cursor AreaFault) (r : read ≡ read_by false c (option_at area c.floor c.at)) where
    pub check_stop : (x : AreaFault) → read ≡ Err x → OptionsChecked area read
    check_stop x e = let y = walk_stop w.walking w.entry h read r x e in record { written = y.written; found = y.found }

    module _ (d : Cursor) (e : read ≡ Ok d) where
      pub check_less : length area - d.at < length area - c.at
      check_less = walk_less w.walking w.entry h read r d e

      pub check_on : Checking area d
      check_on =
          let kept = put w.kept c.to (lent_to area c d) in
          record { kept₀ = w.kept₀; kept = kept; entry = w.entry; walking = walk_on w.walking w.entry h read r d e kept refl }

pub ruleset check_options_laws = (rules, check_begin, check_end, check_stop, check_less, check_on)

-- what is read after them was read before, and is what the rules say of the options
summed_read : (area : List ℕ) (read : Result Cursor AreaFault) (c : Cursor) → summarized_by area read ≡ Ok c → read ≡ Ok c
summed_read area (Err x) c e = e
summed_read area (Ok d) c e =
    by_test (d.hop && not (chbh area))
    (λ t. apart cc)
    (λ t. by_test (d.egress && not (cite area)) (λ u. apart cc) (λ u. cc))

summed_is : (strip : Bool) (area written : List ℕ) (read : Result Cursor AreaFault) (o : Options) → found_by written read ≡ walk_of strip false false [] o
    → area_read_of (summarized_by area read) ≡ summarized area o
unfolding summarized
summed_is strip area written (Err x) (fault n p) e = cc
summed_is strip area written (Err x) (options os) e = apart cc
summed_is strip area written (Ok c) (fault n p) e = apart cc
summed_is strip area written (Ok c) (options os) e =
    by_test (c.hop && not (chbh area))
    (λ t. cc)
    (λ t. by_test (c.egress && not (cite area)) (λ u. cc) (λ u. cc))

-- an area of one word, or none, has no option
pub area_short : (area : List ℕ) → length area ≤ 4 → O.WellFormed ≡ draft_read area
unfolding draft_read summarized options_of some_key
area_short area h = rw (options_end (length area) area 0 4 h)

module _ (strip : Bool) (area : List ℕ) (h : length area ≤ 4) where
  short_sent : sent_of strip area ≡ area
  short_sent = by_test strip (λ e. rw e (stripped_word area h)) (λ e. rw e)

  pub short_kept : (kept kept' : List ℕ) (r : Result Cursor AreaFault) → AllKept area kept kept' r → AreaKept strip area kept kept' r
  short_kept kept kept' r x =
      record {
        read = x.read ∙ area_short area h;
        wrote = λ c e. rw short_sent (x.wrote c e);
        few = λ c e. omega (arith, (x.wrote c e).ends);
        wide = λ c e. x.wide;
      }

-- all of an area
pub all_kept : (area kept kept' : List ℕ) → kept' ≡ put kept 0 area → AreaWords area → length kept ≡ 124
    → AllKept area kept kept' (Ok (record { at = 4; to = length area; floor = 0; hop = false; egress = false }))
all_kept area kept kept' is words wide =
    record {
      read = refl;
      wrote = λ c e. rw (← read_same e) (record { ends = omega arith; after = is });
      wide = rw is (length_put kept 0 area (omega (arith, words.few)) ∙ wide);
    }

pub ruleset keep_all_laws = (rules, all_kept)

pub area_checked : (area : List ℕ) (read r : Result Cursor AreaFault) → OptionsChecked area read → r ≡ summarized_by area read → area_read_of r ≡ draft_read area
unfolding draft_read
area_checked area read r x is = rw is (summed_is false area x.written read (options_of area) x.found)

pub ruleset check_area_laws = (rules, area_short, area_checked)

-- all of an area without a fault is kept
module _ (area : List ℕ) (read : Result Cursor AreaFault) (is : area_read_of read ≡ draft_read area) where
  pub checked_fault : (x : AreaFault) → read ≡ Err x → (kept : List ℕ) → AreaKept false area kept kept read
  checked_fault x e kept = record { read = is; wrote = λ c f. apart cc; few = λ c f. apart cc; wide = λ c f. apart cc }

  pub checked_kept : (c : Cursor) → read ≡ Ok c → AreaWords area → (kept kept' : List ℕ) (r : Result Cursor AreaFault) → AllKept area kept kept' r
      → AreaKept false area kept kept' r
  checked_kept c e words kept kept' r x =
      record {
        read = x.read ∙ (rw e at is);
        wrote = x.wrote;
        few = λ d f. omega (arith, (x.wrote d f).ends, words.few);
        wide = λ d f. x.wide;
      }

pub ruleset keep_checked_laws = (rules, checked_fault, checked_kept)

-- another is its first word and its options
module _ (strip : Bool) (area : List ℕ) (h : 4 < length area) where
  area_sent_lem : (os : List TlvOption) → options_of area ≡ options os → sent_of strip area ≡ take 4 area ++ octets_of (options_sent strip os)
  unfolding options_of
  area_sent_lem os is =
      by_test strip
      (λ e. rw e (stripped_is area os is))
      (λ e. rw (e, ← (walk_laid (suc (length area)) area 0 4 os (omega arith) (omega arith) is).1, take-append-drop))

  pub word_long : length (take 4 area) ≡ 4
  word_long = length-take-le 4 area (omega arith)

  pub word_lent : 4 ≡ length (take 4 area)
  word_lent = sym word_long

  pub word_wide : (kept kept1 : List ℕ) → kept1 ≡ put kept 0 (take 4 area) → length kept ≡ 124 → length kept1 ≡ 124
  word_wide kept kept1 first wide = rw first (length_put kept 0 (take 4 area) (omega (arith, word_long)) ∙ wide)

  pub area_kept : (kept kept1 kept2 : List ℕ) (read r : Result Cursor AreaFault) → AreaWalked strip area kept1 kept2 read → kept1 ≡ put kept 0 (take 4 area)
      → r ≡ summarized_by area read → AreaKept strip area kept kept2 r
  unfolding draft_read
  area_kept kept kept1 kept2 read r w first is =
      let word : Wrote (take 4 area) 0 4 kept kept1 = record { ends = omega (arith, word_lent); after = first } in
      record {
        read = rw is (summed_is strip area w.written read (options_of area) w.found);
        wrote = λ c e.
            let before = summed_read area read c (sym is ∙ e) in
            by_options (options_of area)
            (λ m q f. apart cc)
            (λ os f.
            let written : w.written ≡ octets_of (options_sent strip os) = cc in
            rw (area_sent_lem os f, ← written) (joined word (w.wrote c before)));
        few = λ c e. w.few c (summed_read area read c (sym is ∙ e));
        wide = λ c e. w.wide;
      }

-- by the strip flag
module _ (strip : Bool) (area kept kept' : List ℕ) (r : Result Cursor AreaFault) where
  pub kept_plain : not strip ≡ true → AreaKept false area kept kept' r → AreaKept strip area kept kept' r
  kept_plain n x = rw (not-true strip n) x

  pub kept_stripped : not strip ≡ false → AreaKept true area kept kept' r → AreaKept strip area kept kept' r
  kept_stripped n x = rw (not-false strip n) x

pub ruleset read_area_laws = (rules, kept_plain, kept_stripped, short_kept, word_long, word_lent, word_wide, area_kept)

-- a word
word_is : (s : List ℕ) → length s ≡ 4 → (get_or s 0 0 ∷ get_or s 1 0 ∷ get_or s 2 0 ∷ get_or s 3 0 ∷ []) ≡ s
word_is s four = sym (drop-cons s 0 0 (omega arith) ∙ rw (drop-cons s 1 0 (omega arith), drop-cons s 2 0 (omega arith), drop-cons s 3 0 (omega arith), none))
  where
    none : drop 4 s ≡ []
    none = drop_of_length-le s {i = 4} (omega arith)

pub word_put : (d : List ℕ) (at end : ℕ) (s d' : List ℕ) → length s ≡ 4 → at + 4 ≤ length d
    → Wrote (fitting d at (get_or s 0 0 ∷ get_or s 1 0 ∷ get_or s 2 0 ∷ get_or s 3 0 ∷ [])) at end d d' → d' ≡ put d at s
word_put d at end s d' four room w = (copied w (word_is s four) (omega arith)).after

pub ruleset put_word_laws = (rules, word_put)

-- whole words, one after another
pub words_end : (d : List ℕ) (to : ℕ) (s : List ℕ) (i : ℕ) (out : List ℕ) → out ≡ put d to (take i s) → length s ≤ i → out ≡ put d to s
words_end d to s i out is k = is ∙ rw (take_all i s k)

pub ruleset put_words_laws = (rules, parts, words_end)
