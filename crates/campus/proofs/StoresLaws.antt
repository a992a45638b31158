-- The stores of a description's switches, one behind the other in a row of words: how the code looks through them, what one more store or field leaves,
-- what they say, and what is found by nickname. By computation, and induction on the switches.
use Rattle.std.specs.Prelude.{is_some, Option, Some, None}
use mathlib.Core.Path.{◌≡◌, refl, sym, ap, subst, ◌∙◌, fun_ext}
use mathlib.Core.List.{List, [], ◌++◌, append-nil, ◌∷◌}
use mathlib.Core.Bool.{Bool, true, false, ◌||◌}
use Prim.Native.Nat.{ℕ, zero, suc, ◌+◌, ◌-◌, ◌*◌, ◌/◌, ◌%◌, ◌≤◌, ◌<◌}
use native.Mathlib.Omega.{arith}
use native.Mathlib.Nat.{add-zero, lt_trans}
use borrow.Author.Rules.{rules}
use borrow.Author.Tests.{eq-eqb, ne_eqb, ltb-true, ltb-false}
use borrow.Rule.Slice.PartMut.{put_mid, post_of}
use lib.ListN.{length, get_or, take, drop, length-drop, drop_of_length-le, set, length-append, get_or-append}
use lib.Seq.{take_all, get_or-drop, get_or-set_same, get_or-set_other, get_or-take, drop_at, length-take-le}
use lib.Dec.{eqb, ltb}
use Rattle.rules.specs.{Campus.some_edition2, Campus.switch_named, Campus.known, Fields.field, Fields.length_good}
use Rattle.rules.specs.Settings.{Settings, Ways, switch_of, with_field, opens, switch_good, nickname_valid, mac_good, next_hop, ways_of}
use Rattle.rules.proofs.{TestLaws.by_test, TestLaws.and_true, AlikeLaws.Both}
use Rattle.stores.specs.Extend.{Opens, Extends, with_switch, extending, extended}
use Rattle.stores.specs.Store.{unless_withdrawn, Stands}
use Rattle.stores.proofs.{LookupLaws.next_hop_lem, IndexLaws.good_whole}
use Rattle.stores.proofs.ExtendLaws.{Ample, extended_stands, switch_stands, says, is_good, stands_too}
use Rattle.campus.specs
use specs.Stores.{store_at, switches_in, number_in, end_of, Started, Sound, Kept, PartOpens, PartExtends, settings_in, settings_at}
use specs.Stores.{span_of, Store, Stores, SoundAt, known_in}
use specs.Switches.{IsSound}
use specs.declared.switches.Switches.{Switches}

-- looking for a nickname, from the latest back
pub record Seeking (w starts : List ℕ) (n nickname i : ℕ) : Type 0 where
  pub within : i ≤ n
  pub same : number_in w starts i nickname ≡ number_in w starts n nickname

module _ {w starts : List ℕ} {n nickname i : ℕ} (k : Seeking w starts n nickname i) where
  pub seek_end : i ≤ 0 → None ≡ number_in w starts n nickname
  unfolding number_in
  seek_end z =
      let zero_is : i ≡ 0 = omega arith in
      rw zero_is at k.same

  module _ (more : 0 < i) where
    one_less : i ≡ suc (i - 1)
    one_less = omega arith

    from_last : number_in w starts (suc (i - 1)) nickname ≡ number_in w starts n nickname
    from_last = rw one_less at k.same

    pub seek_here : get_or w (get_or starts (i - 1) 0) 0 ≡ nickname → Some (i - 1) ≡ number_in w starts n nickname
    unfolding number_in
    seek_here e = rw (eq-eqb _ _ e) at from_last

    pub seek_on : (get_or w (get_or starts (i - 1) 0) 0 ≡ nickname → ⊥) → Seeking w starts n nickname (i - 1)
    unfolding number_in
    seek_on h = record { within = omega arith; same = rw (ne_eqb _ _ h) at from_last }

    pub seek_within : Started w starts n → get_or starts (i - 1) 0 < length w
    seek_within p = p.within (i - 1) (omega arith)

pub ruleset find_laws = (rules, seek_end, seek_here, seek_on, seek_within)

-- looking for a switch of edition 2, from the latest back
pub record Editions (w starts : List ℕ) (n i : ℕ) : Type 0 where
  pub within : i ≤ n
  pub same : some_edition2 (switches_in w starts i) ≡ some_edition2 (switches_in w starts n)

module _ {w starts : List ℕ} {n i : ℕ} (k : Editions w starts n i) where
  pub edition_end : i ≤ 0 → false ≡ some_edition2 (switches_in w starts n)
  unfolding some_edition2 switches_in
  edition_end z =
      let zero_is : i ≡ 0 = omega arith in
      rw zero_is at k.same

  module _ (more : 0 < i) where
    last_edition : (eqb (get_or w (get_or starts (i - 1) 0 + 2) 0 / 2 % 2) 1 || some_edition2 (switches_in w starts (i - 1)))
        ≡ some_edition2 (switches_in w starts n)
    unfolding some_edition2 switches_in
    last_edition =
        let last : i ≡ suc (i - 1) = omega arith in
        rw get_or-drop at (rw last at k.same)

    pub edition_here : get_or w (get_or starts (i - 1) 0 + 2) 0 / 2 % 2 ≡ 1 → true ≡ some_edition2 (switches_in w starts n)
    edition_here e = rw (eq-eqb _ _ e) at last_edition

    pub edition_on : (get_or w (get_or starts (i - 1) 0 + 2) 0 / 2 % 2 ≡ 1 → ⊥) → Editions w starts n (i - 1)
    edition_on h = record { within = omega arith; same = rw (ne_eqb _ _ h) at last_edition }

    edition_within_by : ((j : ℕ) → j < n → SoundAt w starts j) → get_or starts (i - 1) 0 + 2 < length w
    edition_within_by each =
        let x = each (i - 1) (omega arith) in
        omega (arith, (good_whole (store_at w starts (i - 1)) x.good).long, length-drop (get_or starts (i - 1) 0) w)

pub edition_within : {sw : Switches} {i : ℕ} → Editions sw.words.now sw.starts.now (length sw.starts.now) i → 0 < i → IsSound sw
    → get_or sw.starts.now (i - 1) 0 + 2 < length sw.words.now
edition_within k more s = edition_within_by k more s.each

pub ruleset edition_2_laws = (rules, edition_end, edition_here, edition_on, edition_within, lt_trans)

-- where the latest store ends
module _ (w starts : List ℕ) (n : ℕ) where
  pub end_none : n ≡ 0 → 0 ≡ end_of w starts n
  unfolding end_of
  end_none e = rw e

  module _ (z : n ≡ 0 → ⊥) where
    pub end_some : get_or starts (n - 1) 0 + 4 + 2 * get_or w (get_or starts (n - 1) 0 + 3) 0 ≡ end_of w starts n
    unfolding end_of
    end_some =
        let last : n ≡ suc (n - 1) = omega (arith, z) in
        sym (ap (end_of w starts) last)

    module _ (k : Kept w starts n) where
      pub end_within : (j : ℕ) → j ≤ 4 → get_or starts (n - 1) 0 + j < length w
      end_within j h = omega (arith, end_some)

      pub end_twice : 2 * get_or w (get_or starts (n - 1) 0 + 3) 0 < length w
      end_twice = omega (arith, end_some)

      pub end_sum : get_or starts (n - 1) 0 + 4 + 2 * get_or w (get_or starts (n - 1) 0 + 3) 0 < length w
      end_sum = omega (arith, end_some)

pub ruleset end_of_laws = (rules, end_none, end_some, end_within, lt_trans, end_twice, end_sum)

-- a part of the words up to their end, lent and taken back
module _ (w : List ℕ) (at : ℕ) where
  pub lent : take (length w - at) (drop at w) ≡ drop at w
  lent = take_all (length w - at) (drop at w) (rw length-drop (omega arith))

  back : (u : List ℕ) → put_mid at (length w - at) w u ≡ take at w ++ u
  back u =
      let zero_is : post_of at (length w - at) w ≡ [] = drop_of_length-le (drop at w) {i = length w - at} (rw length-drop (omega arith)) in
      rw (zero_is, append-nil u)

  module _ (v u : List ℕ) where
    pub part_opens : (r : Bool) → Opens (take (length w - at) (drop at w)) v r u → PartOpens w at v r (put_mid at (length w - at) w u)
    part_opens r o =
        let p : Opens (drop at w) v r u = rw lent at o in
        rw (back u) (record { answer = p.answer; words = ap (λ (x : List ℕ). take at w ++ x) p.words })

    pub part_extends : (tag r : ℕ) → Extends (take (length w - at) (drop at w)) tag v r u
        → PartExtends w at tag v r (put_mid at (length w - at) w u)
    part_extends tag r o =
        let p : Extends (drop at w) tag v r u = rw lent at o in
        rw (back u) (record { code = p.code; words = ap (λ (x : List ℕ). take at w ++ x) p.words })

pub ruleset part_laws = (rules, part_opens, part_extends)

pub span_none : span_of [] ≡ 0
unfolding span_of
span_none = refl

pub span_more : (T : Settings) (l : List Settings) → span_of (T ∷ l) ≡ span_of l + (4 + 2 * length T.hops)
unfolding span_of
span_more T l = refl

-- 64 records at most
pub span_most : (w starts : List ℕ) (l : List Settings) → Stores w starts l → span_of l ≤ 132 * length l
span_most w starts [] s = omega (arith, span_none)
span_most w starts (T ∷ l) s = omega (arith, span_more T l, span_most w starts l s.1)

-- where they end
pub end_is : (w starts : List ℕ) (l : List Settings) → Stores w starts l → end_of w starts (length l) ≡ span_of l
unfolding end_of
end_is w starts [] s = sym span_none
end_is w starts (T ∷ l) s = rw (s.0.start, ← get_or-drop (span_of l) w 3 0, ← s.0.stands.records.count, span_more T l) (omega arith)

-- the words in front of a part, and the part
module _ (w : List ℕ) (a : ℕ) (x : List ℕ) (h : a ≤ length w) where
  front_same : (j : ℕ) → j < a → get_or (take a w ++ x) j 0 ≡ get_or w j 0
  front_same j b = get_or-append (take a w) x 0 j (omega (arith, length-take-le a w h)) ∙ get_or-take a w j 0 b

  back_is : drop a (take a w ++ x) ≡ x
  back_is = drop_at (take a w) x a (length-take-le a w h)

  pub part_long : length x ≡ length (drop a w) → length (take a w ++ x) ≡ length w
  part_long e = length-append (take a w) x ∙ omega (arith, length-take-le a w h, length-drop a w)

  -- the switches in front of the part stay, where their starts do
  stores_front : (starts starts' : List ℕ) (l : List Settings) → span_of l ≤ a → ((i : ℕ) → i < length l → get_or starts' i 0 ≡ get_or starts i 0)
      → Stores w starts l → Stores (take a w ++ x) starts' l
  stores_front starts starts' [] low kept s = tt
  stores_front starts starts' (T ∷ l) low kept s = (
    record {
      start = kept (length l) (omega arith) ∙ s.0.start;
      stands =
          stands_too (drop (span_of l) w) (drop (span_of l) (take a w ++ x)) T
          (λ j b. simp get_or-drop (front_same (span_of l + j) (omega (arith, span_more T l)))) s.0.stands;
      valid = s.0.valid;
    },
    stores_front starts starts' l (omega (arith, span_more T l)) (λ i b. kept i (omega arith)) s.1,
  )

-- the first starts are those of the switches
module _ (w starts : List ℕ) (n : ℕ) where
  pub stores_starts : (l : List Settings) → length l ≤ n → Stores w starts l → Stores w (take n starts) l
  stores_starts [] h s = tt
  stores_starts (T ∷ l) h s = (
    record { start = get_or-take n starts (length l) 0 (omega arith) ∙ s.0.start; stands = s.0.stands; valid = s.0.valid },
    stores_starts l (omega arith) s.1,
  )

  number_starts : (x m : ℕ) → m ≤ n → number_in w (take n starts) m x ≡ number_in w starts m x
  unfolding number_in
  number_starts x zero h = refl
  number_starts x (suc m) h = rw (get_or-take n starts m 0 (omega arith), number_starts x m (omega arith))

  module _ (s : Started w starts n) where
    pub started_front : Started w (take n starts) (length (take n starts))
    started_front =
        let long = length-take-le n starts s.long in
        record { long = omega arith; within = λ i h. rw (get_or-take n starts i 0 (omega (arith, long))) (s.within i (omega (arith, long))) }

    pub known_front : (x : ℕ) (found : Option ℕ) → found ≡ number_in w (take n starts) (length (take n starts)) x → (r : Bool) → r ≡ is_some found
        → r ≡ known_in w starts n x
    known_front x found e r is = is ∙ ap (λ (o : Option ℕ). is_some o) (e ∙ rw (length-take-le n starts s.long) (number_starts x n (omega arith)))

pub ruleset nickname_known_laws = (rules, started_front, known_front)

-- equal words hold equal stores
pub stores_along : {w w' starts starts' : List ℕ} (l : List Settings) → w' ≡ w → starts' ≡ starts → Stores w starts l → Stores w' starts' l
stores_along {w} {w'} {starts} {starts'} l e f s =
    subst (λ (u : List ℕ). Stores w' u l) (sym f) (subst (λ (u : List ℕ). Stores u starts l) (sym e) s)

-- one more switch
pub stores_opened : (w starts v : List ℕ) (l : List Settings) → Stores w starts l → span_of l + 4 ≤ length w → length l < length starts
    → opens (field 1 v) ≡ true
    → Stores (take (span_of l) w ++ with_switch (drop (span_of l) w) v) (set starts (length l) (span_of l)) (switch_of v ∷ l)
unfolding opens switch_good
stores_opened w starts v l s room few o =
    let h : span_of l ≤ length w = omega arith in
    let x = with_switch (drop (span_of l) w) v in (
      record {
        start = get_or-set_same starts (length l) (span_of l) 0 few;
        stands = rw (back_is w (span_of l) x h) (switch_stands (drop (span_of l) w) v (rw length-drop (omega arith)));
        valid =
            (and_true (nickname_valid (switch_of v).nickname) (mac_good (switch_of v).mac) (and_true (length_good 1 (length v)) (switch_good (switch_of v)) o).1).0;
      },
      stores_front w (span_of l) x h starts (set starts (length l) (span_of l)) l (omega arith)
          (λ i b. get_or-set_other starts (length l) i (span_of l) 0 (omega arith)) s,
    )

-- one more field of the latest
name_with : (T : Settings) (tag : ℕ) (v : List ℕ) → (with_field T (field tag v)).nickname ≡ T.nickname
unfolding with_field
name_with T tag v =
    by_test (eqb tag 2) (λ e. rw e) (λ e.
    by_test (eqb tag 3) (λ f. rw (e, f)) (λ f.
    by_test (eqb tag 6) (λ g. rw (e, f, g)) (λ g. rw (e, f, g))))

module _ (w starts : List ℕ) (T : Settings) (l : List Settings) (s : Stores w starts (T ∷ l)) (room : span_of (T ∷ l) + 6 ≤ length w) where
  pub latest_ample : Ample (drop (span_of l) w)
  latest_ample = omega (arith, length-drop (span_of l) w, span_more T l)

  pub stores_extended : (tag : ℕ) (v : List ℕ) → extending (drop (span_of l) w) tag v ≡ 0
      → Stores (take (span_of l) w ++ extended (drop (span_of l) w) tag v) starts (with_field T (field tag v) ∷ l)
  stores_extended tag v z =
      let h : span_of l ≤ length w = omega (arith, span_more T l) in
      let x = extended (drop (span_of l) w) tag v in (
        record {
          start = s.0.start;
          stands = rw (back_is w (span_of l) x h) (extended_stands (drop (span_of l) w) T s.0.stands latest_ample v tag z);
          valid = rw (name_with T tag v) s.0.valid;
        },
        stores_front w (span_of l) x h starts starts l (omega arith) (λ i b. refl) s.1,
      )

-- what the words say
stands_ways : (w : List ℕ) (T : Settings) → Stands w T → ways_of T ≡ ways_of (settings_in w)
stands_ways w T s =
    let hops : next_hop T ≡ next_hop (settings_in w) =
    fun_ext (λ d. next_hop_lem T d ∙ ap unless_withdrawn (s.records.same_ruling d) ∙ sym (next_hop_lem (settings_in w) d)) in
    λ i. record { nickname = sym s.nickname i; mac = sym s.mac i; strip = sym s.strip i; rfc7179 = sym s.rfc7179 i; hop = hops i }

module _ (w starts : List ℕ) where
  ways_at : (l : List Settings) (T : Settings) → Store w starts l T → ways_of T ≡ ways_of (settings_at w starts (length l))
  ways_at l T s = rw s.start (stands_ways (drop (span_of l) w) T s.stands)

  sound_each : (l : List Settings) → Stores w starts l → span_of l ≤ length w → length l ≤ length starts → (i : ℕ) → i < length l → SoundAt w starts i
  sound_each [] s room listed i h = absurd (omega arith)
  sound_each (T ∷ l) s room listed i h =
      by_test (ltb i (length l))
      (λ t. sound_each l s.1 (omega (arith, span_more T l)) (omega arith) i (ltb-true i (length l) t))
      (λ f.
      let e : i ≡ length l = omega (arith, ltb-false i (length l) f) in
      let x = s.0.stands in
      let words = drop (span_of l) w in
      rw e
      (record {
        listed = omega arith;
        start = rw s.0.start (omega (arith, span_more T l));
        good = rw s.0.start (is_good words T x s.0.valid (rw length-drop (omega (arith, span_more T l))));
        says = rw s.0.start (says words T x ∙ stands_ways words T x);
      }))

  named_alike : (x : ℕ) (l : List Settings) → Stores w starts l → Both (switch_named l x) (switch_named (switches_in w starts (length l)) x)
  unfolding switch_named switches_in
  named_alike x [] s = tt
  named_alike x (T ∷ l) s =
      let same = ways_at l T s.0 in
      let name : T.nickname ≡ (settings_at w starts (length l)).nickname = ap (λ (y : Ways). y.nickname) same in
      by_test (eqb T.nickname x) (λ t. rw (t, (rw name at t)) same) (λ f. rw (f, (rw name at f)) (named_alike x l s.1))

  edition_alike : (l : List Settings) → Stores w starts l → some_edition2 l ≡ some_edition2 (switches_in w starts (length l))
  unfolding some_edition2 switches_in
  edition_alike [] s = refl
  edition_alike (T ∷ l) s = rw (ap (λ (y : Ways). y.rfc7179) (ways_at l T s.0), edition_alike l s.1)

  pub name_here : (i : ℕ) → (settings_at w starts i).nickname ≡ get_or w (get_or starts i 0) 0
  name_here i = rw (get_or-drop, add-zero)

-- a switch found by its nickname is the latest that the words say
module _ (w starts : List ℕ) (n x : ℕ) where
  abbrev Lookup : Option ℕ → Option Settings → Type 0
  Lookup None o = o ≡ None
  Lookup (Some i) o = (i < n) × (o ≡ Some (settings_at w starts i))

  lookup_first : (m : ℕ) → m ≤ n → Lookup (number_in w starts m x) (switch_named (switches_in w starts m) x)
  unfolding number_in switch_named switches_in
  lookup_first zero h = refl
  lookup_first (suc m) h =
      let name = name_here w starts m in
      by_test (eqb (settings_at w starts m).nickname x) (λ t. rw (t, (rw name at t)) (h, refl)) (λ f. rw (f, (rw name at f)) (lookup_first m (omega arith)))

  lookup : Lookup (number_in w starts n x) (switch_named (switches_in w starts n) x)
  lookup = lookup_first n (omega arith)

  lookup_known : (r : Option ℕ) (o : Option Settings) → Lookup r o → is_some r ≡ known o
  lookup_known None o t = rw t
  lookup_known (Some i) o t = rw t.1

  module _ (found : Option ℕ) (is : found ≡ number_in w starts n x) where
    pub named_none : found ≡ None → switch_named (switches_in w starts n) x ≡ None
    named_none e = rw (← is, e) at lookup

    pub named_some : (i : ℕ) → found ≡ Some i → (i < n) × (switch_named (switches_in w starts n) x ≡ Some (settings_at w starts i))
    named_some i e = rw (← is, e) at lookup

both_known : (o p : Option Settings) → Both o p → known o ≡ known p
both_known None None b = refl
both_known None (Some T) b = absurd b
both_known (Some S) None b = absurd b
both_known (Some S) (Some T) b = refl

-- the first n
module _ (w starts : List ℕ) (l : List Settings) (s : Stores w starts l) (n : ℕ) (count : length l ≡ n) where
  pub named_same : (x : ℕ) → Both (switch_named l x) (switch_named (switches_in w starts n) x)
  named_same x = rw (← count) (named_alike w starts x l s)

  pub edition_same : some_edition2 l ≡ some_edition2 (switches_in w starts n)
  edition_same = rw (← count) (edition_alike w starts l s)

  pub known_is : (x : ℕ) → is_some (number_in w starts n x) ≡ known (switch_named l x)
  known_is x =
      let named = switch_named (switches_in w starts n) x in
      lookup_known w starts n x (number_in w starts n x) named (lookup w starts n x) ∙ sym (both_known (switch_named l x) named (named_same x))

  pub stores_sound : span_of l ≤ length w → n ≤ length starts → Sound w starts n
  stores_sound room listed =
      let each : (i : ℕ) → i < n → SoundAt w starts i = λ i h. sound_each w starts l s room (omega arith) i (omega arith) in
      record { started = record { long = listed; within = λ i h. (each i h).start }; each = each }
