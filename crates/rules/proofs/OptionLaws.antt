-- Laws of the options area. One law for each outcome of a reading; then what a walk finds lays out the area again, so that a
-- stripped area is read as the options kept: it is well formed, has the same summary bits, and stripping it changes nothing.
--
use mathlib.Core.Path.{◌≡◌, refl, sym, ap, ◌∙◌}
use mathlib.Core.Logic.{◌↔◌}
use mathlib.Core.List.{List, [], ◌∷◌, ◌++◌, append_assoc, append-nil}
use mathlib.Core.Bool.{Bool, true, false, not, ◌&&◌, false≢true}
use Prim.Native.Nat.{ℕ, zero, suc, ◌+◌, ◌-◌, ◌*◌, ◌%◌, ◌<◌, ◌≤◌, min}
use native.Mathlib.Omega.{arith}
use native.Mathlib.Nat.{le_refl}
use borrow.Author.Tests.{ltb-false, leb-true, leb-false, eqb-true, eqb-false}
use lib.Dec.{ltb, eqb}
use lib.ListN.{length, take, drop, take-append-drop, length-append, length-take, length-drop, drop_of_length-le}
use lib.Seq.{drop-append_seam, take_at, drop_at, take_all, length-take-le}
use specs.Octets.{octet, be16, part}
use specs.Options.{chbh, cite, key_of, length_of, ie, nc, option_size, option_at, TlvOption, Options, options, fault, option_first, options_from, options_of}
use specs.Options.{hop_by_hop_critical, ingress_to_egress_critical, some_key, summarized, draft_read, strippable, kept_options, octets_of, stripped, OptionRead, Taken}
use specs.Answer.{number_of}
use specs.declared.Number.{Number}
use specs.declared.Number.TheVariants.{ReservedLength, OptionCut, KeyBelow, KeyEqual}
use specs.Options.{Fault, AreaRead, WellFormed, Faulty, Laid, none, one, WellFormedArea}
use proofs.TestLaws.{tests, apart, by_test, by_order, either, and_left, and_right, and_no}
use proofs.OctetLaws.{octet_part, be16_before, be16_at, be16_part, drop_part, length_part}
use Rattle.rules.specs
use Rattle.rules.proofs

-- what is known of an option that was taken
pub record Read (area : List ℕ) (floor at key size next : ℕ) : Type 0 where
  pub its_key : key_of (be16 area at) ≡ key
  pub its_size : length_of (be16 area at) ≡ size
  pub small : size < 119
  pub ends : next ≡ at + option_size size
  pub within : next ≤ length area
  pub above : floor ≤ key

-- an answer number in a range, and a place no further than another
pub record Numbered (least most long n p : ℕ) : Type 0 where
  pub from : least ≤ n
  pub to : n ≤ most
  pub near : p ≤ long

-- whatever is read: an option, or a fault of 30 to 33 at that place
abbrev Found : List ℕ → ℕ → ℕ → OptionRead → Type 0
Found area floor at (Taken key size next) = Read area floor at key size next
Found area floor at (Fault n p) = Numbered 30 33 at (number_of n) p

key_above : (key floor : ℕ) → ltb (key + 1) floor ≡ false → eqb (key + 1) floor ≡ false → floor ≤ key
key_above key floor a b = omega (arith, ltb-false (key + 1) floor a, eqb-false (key + 1) floor b)

-- one option, by outcome
module _ (area : List ℕ) (floor at : ℕ) where
  pub option_reserved : 119 ≤ length_of (be16 area at) → Fault ReservedLength at ≡ option_at area floor at
  unfolding option_at
  option_reserved h = simp tests

  module _ (s : length_of (be16 area at) < 119) where
    pub option_past : length area < at + option_size (length_of (be16 area at)) → Fault OptionCut at ≡ option_at area floor at
    unfolding option_at
    option_past h = simp tests

    module _ (p : at + option_size (length_of (be16 area at)) ≤ length area) where
      pub option_below : key_of (be16 area at) + 1 < floor → Fault KeyBelow at ≡ option_at area floor at
      unfolding option_at
      option_below h = simp tests

      pub option_equal : key_of (be16 area at) + 1 ≡ floor → Fault KeyEqual at ≡ option_at area floor at
      unfolding option_at
      option_equal h = let from : floor ≤ key_of (be16 area at) + 1 = omega arith in simp tests

      pub option_taken : floor ≤ key_of (be16 area at)
          → Taken (key_of (be16 area at)) (length_of (be16 area at)) (at + option_size (length_of (be16 area at))) ≡ option_at area floor at
      unfolding option_at
      option_taken h =
          let from : floor ≤ key_of (be16 area at) + 1 = omega arith in
          let above : key_of (be16 area at) + 1 ≡ floor → ⊥ = λ e. omega arith in
          simp tests

  option_found : Found area floor at (option_at area floor at)
  unfolding option_at
  option_found = search (either (Found area floor at), leb-true, leb-false, ltb-false, le_refl, key_above) depth 10

  pub option_read : (k n m : ℕ) → option_at area floor at ≡ Taken k n m → Read area floor at k n m
  option_read k n m e = rw e at option_found

-- a walk that met no fault had come to the end, or took an option and met no fault from there on
pub data Walked (fuel : ℕ) (area : List ℕ) (floor at : ℕ) (os : List TlvOption) : Type 0 where
  ended : length area ≤ at → os ≡ [] → Walked fuel area floor at os
  took : (key size next : ℕ) (os' : List TlvOption) → at < length area → Read area floor at key size next
      → os ≡ record { key = key; size = size; octets = part area at (next - at) } ∷ os' → options_from fuel area (key + 1) next ≡ options os'
      → Walked fuel area floor at os

abbrev Came : ℕ → List ℕ → ℕ → ℕ → Options → Type 0
Came fuel area floor at (options os) = Walked fuel area floor at os
Came fuel area floor at (fault n p) = Numbered 30 33 (length area) (number_of n) p

-- the walk, by what it meets
module _ (fuel : ℕ) (area : List ℕ) (floor at : ℕ) where
  pub options_end : length area ≤ at → options_from (suc fuel) area floor at ≡ options []
  unfolding options_from
  options_end h = simp (options_from, tests)

  pub options_fault : (number : Number) (place : ℕ) → at < length area → option_at area floor at ≡ Fault number place
      → options_from (suc fuel) area floor at ≡ fault number place
  unfolding options_from
  options_fault number place h e = simp (options_from, tests, e)

  pub options_on : (key size next : ℕ) → at < length area → option_at area floor at ≡ Taken key size next
      → options_from (suc fuel) area floor at
      ≡ option_first (record { key = key; size = size; octets = part area at (next - at) }) (options_from fuel area (key + 1) next)
  unfolding options_from
  options_on key size next h e = simp (options_from, tests, e)

  -- whatever it comes to
  came : ((key next : ℕ) (n : Number) (p : ℕ) → options_from fuel area (key + 1) next ≡ fault n p → Numbered 30 33 (length area) (number_of n) p)
      → Came fuel area floor at (options_from (suc fuel) area floor at)
  came later =
      by_order at (length area)
      (λ lt.
      elim (option_at area floor at)
      as (λ w. option_at area floor at ≡ w → Found area floor at w → Came fuel area floor at (options_from (suc fuel) area floor at)) [
        | Fault n p ↦ λ q r. rw (options_fault n p lt q) (omega arith)
        | Taken key size next ↦ λ q r. rw (options_on key size next lt q) (first key size next lt r (options_from fuel area (key + 1) next) refl)
      ] refl (option_found area floor at))
      (λ le. rw (options_end le) (ended le refl))
    where
      first : (key size next : ℕ) → at < length area → Read area floor at key size next → (w : Options) → options_from fuel area (key + 1) next ≡ w
          → Came fuel area floor at (option_first (record { key = key; size = size; octets = part area at (next - at) }) w)
      first key size next lt r (options os) f = took key size next os lt r refl f
      first key size next lt r (fault n p) f = later key next n p f

options_number : (fuel : ℕ) (area : List ℕ) (floor at : ℕ) (n : Number) (p : ℕ) → options_from fuel area floor at ≡ fault n p → Numbered 30 33 (length area) (number_of n) p
unfolding options_from
options_number zero area floor at n p e = apart (cc e)
options_number (suc fuel) area floor at n p e = rw e at (came fuel area floor at (λ key. options_number fuel area (key + 1)))

pub walked : (fuel : ℕ) (area : List ℕ) (floor at : ℕ) (os : List TlvOption) → options_from (suc fuel) area floor at ≡ options os → Walked fuel area floor at os
walked fuel area floor at os e = rw e at (came fuel area floor at (λ key. options_number fuel area (key + 1)))

-- what a walk that meets no fault finds lays out the area from there on
pub walk_laid : (fuel : ℕ) (area : List ℕ) (floor at : ℕ) (os : List TlvOption) → at ≤ length area → length area < at + fuel
    → options_from fuel area floor at ≡ options os → Laid floor os × (drop at area ≡ octets_of os)
unfolding octets_of
walk_laid zero area floor at os within enough e = absurd (omega arith)
walk_laid (suc fuel) area floor at os within enough e =
    elim (walked fuel area floor at os e) [
      | ended le is ↦ rw is (none, drop_of_length-le area le)
      | took key size next os' lt r is f ↦
          let h = walk_laid fuel area (key + 1) next os' r.within (omega arith) f in
          let n : next - at ≡ option_size size = omega arith in
          let word = be16_part area at (next - at) (omega arith) in
          let to : at + (next - at) ≡ next = omega arith in
          rw is (
            one (ap key_of word ∙ r.its_key) (ap length_of word ∙ r.its_size) r.small
                (length_part area at (next - at) (omega arith) ∙ n) r.above h.0,
            sym (drop_part area at (next - at)) ∙ rw (to, h.1),
          )
    ]

-- options that are laid out are what a walk finds
pub laid_walk : {floor : ℕ} {os : List TlvOption} → Laid floor os → (p : List ℕ) (fuel : ℕ) → length os < fuel
    → options_from fuel (p ++ octets_of os) floor (length p) ≡ options os
unfolding octets_of
laid_walk l p zero h = absurd (omega arith)
laid_walk {floor} none p (suc fuel) h = options_end fuel (p ++ []) floor (length p) (rw append-nil (omega arith))
laid_walk {floor} (one {o = o} {os = os} k s small n above l) p (suc fuel) h =
    let behind = o.octets ++ octets_of os in
    let area = p ++ behind in
    let at = length p in
    let next = at + length o.octets in
    let word = be16_at p behind ∙ be16_before o.octets (octets_of os) 0 (omega arith) in
    let key = ap key_of word ∙ k in
    let size = ap length_of word ∙ s in
    let long : length area ≡ at + (length o.octets + length (octets_of os)) = simp length-append in
    let taken : option_at area floor at ≡ Taken o.key o.size next =
    sym (option_taken area floor at (omega arith) (omega arith) (omega arith)) ∙ cc (key, size, n) in
    let cut_out : part area at (next - at) ≡ o.octets =
    rw (drop-append_seam p behind) (take_at o.octets (octets_of os) (next - at) (omega arith)) in
    options_on fuel area floor at o.key o.size next (omega arith) taken
    ∙ rw (cut_out, ← append_assoc p o.octets (octets_of os), ← length-append p o.octets, laid_walk {floor = o.key + 1} l (p ++ o.octets) fuel (omega arith))

-- each option takes a whole number of words, one or more
pub laid_words : {floor : ℕ} {os : List TlvOption} → Laid floor os → (length os * 4 ≤ length (octets_of os)) × (length (octets_of os) % 4 ≡ 0)
unfolding octets_of
laid_words none = (omega arith, refl)
laid_words (one k s small n above l) = let ih = laid_words l in rw length-append (omega arith)

nothing_there : {A : Type 0} (l : List A) → length l ≤ 0 → l ≡ []
nothing_there [] h = refl
nothing_there (a ∷ l) h = absurd (omega arith)

-- an area of less than a word has no options; so an area is read as options exactly if it is laid out by them behind its first word
module _ (area : List ℕ) (os : List TlvOption) where
  area_laid : options_of area ≡ options os → Laid 0 os × (drop 4 area ≡ octets_of os)
  unfolding options_of octets_of
  area_laid e =
      by_order 4 (length area)
      (λ more. walk_laid (suc (length area)) area 0 4 os (omega arith) (omega arith) e)
      (λ short.
      let empty : os ≡ [] = cc (options_end (length area) area 0 4 short) in
      rw empty (none, drop_of_length-le area short))

  laid_area : Laid 0 os → drop 4 area ≡ octets_of os → options_of area ≡ options os
  unfolding options_of
  laid_area l fill =
      let count = (laid_words l).0 in
      let long = ap length (sym fill) ∙ length-drop 4 area in
      by_order (length area) 4
      (λ short. rw (nothing_there os (omega arith)) (options_end (length area) area 0 4 (omega arith)))
      (λ more.
      let whole : take 4 area ++ octets_of os ≡ area = rw (← fill) (take-append-drop 4 area) in
      rw (whole, length-take-le 4 area more) at (laid_walk l (take 4 area) (suc (length area)) (omega arith)))

laid_lower : {floor floor' : ℕ} {os : List TlvOption} → floor' ≤ floor → Laid floor os → Laid floor' os
laid_lower h none = none
laid_lower {floor' = floor'} h (one k s small n above l) = one {floor = floor'} k s small n (omega arith) l

pub kept_nothing : kept_options [] ≡ []
unfolding kept_options
kept_nothing = refl

module _ (o : TlvOption) (os : List TlvOption) where
  pub kept_not : strippable o.key o.size ≡ true → kept_options (o ∷ os) ≡ kept_options os
  unfolding kept_options
  kept_not e = rw e

  pub kept_too : strippable o.key o.size ≡ false → kept_options (o ∷ os) ≡ o ∷ kept_options os
  unfolding kept_options
  kept_too e = rw e

-- the options kept are laid out as well, take no more octets, and none of them is stripped any more
kept_laid : {floor : ℕ} {os : List TlvOption} → Laid floor os → Laid floor (kept_options os)
unfolding kept_options
kept_laid none = none
kept_laid (one {o = o} k s small n above l) =
    let ih = kept_laid l in
    by_test (strippable o.key o.size) (λ e. rw e (laid_lower (omega arith) ih)) (λ e. rw e (one k s small n above ih))

kept_shorter : (os : List TlvOption) → length (octets_of (kept_options os)) ≤ length (octets_of os)
unfolding octets_of kept_options
kept_shorter [] = omega arith
kept_shorter (o ∷ os) =
    let ih = kept_shorter os in
    by_test (strippable o.key o.size) (λ e. rw e (simp length-append (omega arith))) (λ e. rw e (simp length-append (omega arith)))

kept_kept : (os : List TlvOption) → kept_options (kept_options os) ≡ kept_options os
unfolding kept_options
kept_kept [] = refl
kept_kept (o ∷ os) =
    let ih = kept_kept os in
    by_test (strippable o.key o.size) (λ e. rw e ih) (λ e. rw (e, kept_options, e, ih))

-- a critical option is never stripped, so the options kept need the same summary bits
pub strippable_nc : (key size : ℕ) → strippable key size ≡ true → nc key ≡ 1
unfolding strippable
strippable_nc key size e = search (eqb-true, and_left, and_right)

module _ (test : ℕ → Bool) (critical : (key : ℕ) → nc key ≡ 1 → test key ≡ false) where
  kept_some : (os : List TlvOption) → some_key test (kept_options os) ≡ some_key test os
  unfolding some_key kept_options
  kept_some [] = refl
  kept_some (o ∷ os) =
      let ih = kept_some os in
      by_test (strippable o.key o.size)
      (λ e. rw (e, critical o.key (strippable_nc o.key o.size e)) ih)
      (λ e. rw (e, ih))

pub stripped_is : (area : List ℕ) (os : List TlvOption) → options_of area ≡ options os → stripped area ≡ take 4 area ++ octets_of (kept_options os)
unfolding stripped
stripped_is area os e = rw (stripped, e)

front : (area t : List ℕ) → (length area < 4 → length t ≤ 0) → (take 4 (take 4 area ++ t) ≡ take 4 area) × (drop 4 (take 4 area ++ t) ≡ t)
front area t behind =
    by_order (length area) 4
    (λ short.
    let few : length area ≤ 4 = omega arith in
    rw (nothing_there t (behind short), append-nil, take_all 4 area few) (take_all 4 area few, drop_of_length-le area few))
    (λ more. let four = length-take-le 4 area more in (take_at (take 4 area) t 4 four, drop_at (take 4 area) t 4 four))

-- what a well formed area is
pub record Well (area : List ℕ) : Type 0 where
  pub its_options : List TlvOption
  pub are : options_of area ≡ options its_options
  pub hop_by_hop : (some_key hop_by_hop_critical its_options && not (chbh area)) ≡ false
  pub ingress_to_egress : (some_key ingress_to_egress_critical its_options && not (cite area)) ≡ false

well_area : (area : List ℕ) → Well area → draft_read area ≡ WellFormed
unfolding draft_read summarized
well_area area w = rw (w.are, w.hop_by_hop, w.ingress_to_egress)

-- the answer numbers of an area, 30 to 33 of an option and 34 and 35 after all, and their places
abbrev AreaFound : List ℕ → AreaRead → Type 0
AreaFound area WellFormed = Well area
AreaFound area (Faulty n p) = Numbered 30 35 (length area) (number_of n) p

area_found : (area : List ℕ) → AreaFound area (draft_read area)
unfolding draft_read summarized options_of
area_found area =
    elim (options_of area) as (λ w. options_of area ≡ w → AreaFound area (summarized area w)) [
      | fault n p ↦ λ is. omega (arith, options_number (suc (length area)) area 0 4 n p is)
      | options os ↦ λ is. let near : 0 ≤ length area = omega arith in search (either (AreaFound area), leb-true)
    ] refl

pub area_well : (area : List ℕ) → draft_read area ≡ WellFormed → Well area
area_well area e = rw e at (area_found area)

pub area_number : (area : List ℕ) (n : Number) (p : ℕ) → draft_read area ≡ Faulty n p → Numbered 30 35 (length area) (number_of n) p
area_number area n p e = rw e at (area_found area)

-- a stripped area is well formed, with the same summary bits, no longer, of whole words; and stripping it changes nothing
module _ (area : List ℕ) (e : draft_read area ≡ WellFormed) where
  Its : Well area
  Its = area_well area e

  abbrev kept : List TlvOption
  kept = kept_options Its.its_options

  is : stripped area ≡ take 4 area ++ octets_of kept
  is = stripped_is area Its.its_options Its.are

  laid : Laid 0 Its.its_options × (drop 4 area ≡ octets_of Its.its_options)
  laid = area_laid area Its.its_options Its.are

  fewer : length (octets_of kept) ≤ length area - 4
  fewer = omega (arith, kept_shorter Its.its_options, ap length laid.1, length-drop 4 area)

  parts : (take 4 (stripped area) ≡ take 4 area) × (drop 4 (stripped area) ≡ octets_of kept)
  parts = rw is (front area (octets_of kept) (λ h. omega (arith, fewer)))

  long : length (stripped area) ≡ min 4 (length area) + length (octets_of kept)
  long = rw is (simp (length-append, length-take))

  again : options_of (stripped area) ≡ options kept
  again = laid_area (stripped area) kept (kept_laid laid.0) parts.1

  first_octet : octet (stripped area) 0 ≡ octet area 0
  first_octet = sym (octet_part (stripped area) 0 4 0 (omega arith)) ∙ rw parts.0 (octet_part area 0 4 0 (omega arith))

  pub stripped_chbh : chbh (stripped area) ≡ chbh area
  stripped_chbh = rw first_octet

  pub stripped_cite : cite (stripped area) ≡ cite area
  stripped_cite = rw first_octet

  pub stripped_well : draft_read (stripped area) ≡ WellFormed
  stripped_well =
      well_area (stripped area)
      record {
        its_options = kept;
        are = again;
        hop_by_hop = rw (stripped_chbh, kept_some hop_by_hop_critical (λ k n. rw n (and_no (eqb (ie k) 0))) Its.its_options) Its.hop_by_hop;
        ingress_to_egress =
            rw (stripped_cite, kept_some ingress_to_egress_critical (λ k n. rw n (and_no (eqb (ie k) 1))) Its.its_options) Its.ingress_to_egress;
      }

  pub stripped_twice : stripped (stripped area) ≡ stripped area
  stripped_twice = stripped_is (stripped area) kept again ∙ rw (parts.0, kept_kept) (sym is)

  pub stripped_shorter : length (stripped area) ≤ length area
  stripped_shorter = omega (arith, long, fewer)

  pub stripped_words : length area % 4 ≡ 0 → length (stripped area) % 4 ≡ 0
  stripped_words m = omega (arith, long, (laid_words (kept_laid laid.0)).1)

-- an area of one word, or none, has nothing to strip
pub stripped_word : (area : List ℕ) → length area ≤ 4 → stripped area ≡ area
unfolding options_of octets_of kept_options
stripped_word area h = stripped_is area [] (options_end (length area) area 0 4 h) ∙ rw append-nil (take_all 4 area h)

-- T-02: "Frames refused stay the same": what is read as well formed is what document 01's sentence says, and nothing else
lacks : (a b : Bool) → ((a && not b) ≡ false) ↔ (a ≡ true → b ≡ true)
lacks true true = (λ e t. refl, λ h. refl)
lacks true false = (λ e t. sym e, λ h. sym (h refl))
lacks false b = (λ e t. absurd (false≢true t), λ h. refl)

pub well_formed_before : (area : List ℕ) → draft_read area ≡ WellFormed → WellFormedArea area
well_formed_before area e =
    let w = area_well area e in
    let filled = area_laid area w.its_options w.are in
    record {
      its = w.its_options;
      fill = filled.1;
      laid = filled.0;
      hop_by_hop = (lacks _ (chbh area)).0 w.hop_by_hop;
      ingress_to_egress = (lacks _ (cite area)).0 w.ingress_to_egress;
    }

pub well_formed_after : (area : List ℕ) → WellFormedArea area → draft_read area ≡ WellFormed
well_formed_after area w =
    well_area area
    record {
      its_options = w.its;
      are = laid_area area w.its w.laid w.fill;
      hop_by_hop = (lacks _ (chbh area)).1 w.hop_by_hop;
      ingress_to_egress = (lacks _ (cite area)).1 w.ingress_to_egress;
    }
