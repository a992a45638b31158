-- One law for each way out of the reader's calls that the tests alone do not decide. By the tests in their order.
use Rattle.std.specs.Prelude.{if◌then◌else◌, Some, None, Option, Result, Ok, Err}
use mathlib.Core.Path.{◌≡◌, refl, sym, ap, ◌∙◌}
use mathlib.Core.Logic.{inl, inr}
use mathlib.Core.List.{List, [], ◌∷◌, ◌++◌, append-nil}
use mathlib.Core.Bool.{Bool, true, false, not}
use Prim.Native.Nat.{ℕ, min, ◌+◌, ◌-◌, ◌%◌, ◌<◌, ◌≤◌}
use native.Mathlib.Omega.{arith}
use native.Mathlib.Nat.{lt_of_lt_of_le}
use borrow.Author.Rules.{rules}
use borrow.Author.Tests.{eqb-true, ltb-false, not-false}
use mir.Val.{Fits}
use mir.Syntax.{w8}
use denote.Ref.{Bor}
use lib.Dec.{ltb, eqb}
use lib.ListN.{length, get_or, set, take, drop, length-drop}
use borrow.Rule.Slice.PartMut.{put_mid, post_of, Post-is}
use lib.Seq.{drop_at, drop-length, take_all, take-length, length-take-le, sets-eq}
use Rattle.rules.specs.Octets.{be48, octets48, put}
use Rattle.rules.specs.{Settings.Settings, Settings.settings_of, Answer.Handled, Answer.dropped}
use Rattle.rules.proofs.{TestLaws.tests, OctetLaws.put_none}
use Rattle.octets.specs.Copy.{Wrote, fitting}
use Rattle.octets.proofs.Ends.{six_octets, copied}
use Rattle.handler.specs.{Shapes.answer_of, Tasks.Both}
use Rattle.stores.specs.Store.{store_words, preparing, Prepared, handled_in}
use Rattle.handler.specs.declared.answers.Answer.{Answer}
use Rattle.std.specs.Option.{unwrap_or}
use Rattle.std.specs.Slice.{IsGetRangeResult}
use Rattle.rules.specs.Answer.{number_of}
use Rattle.rules.specs.Handling.{frame_most}
use Rattle.rules.specs.declared.Number.{Number}
use Rattle.rules.specs.declared.Number.TheVariants as N
use Rattle.reader.specs.declared.Stopped.{Stopped}
use Rattle.reader.specs.declared.Stopped.TheVariants.{Refused, Early}
use Rattle.reader.specs.Bursts.{count_in, early_in, ended_in, with_count, with_early, with_end, settings_bad, stopped, said_by, said_of, start_refusal, Started, Burst, saying, burst, BurstDone, gathered_handled, Mark, marking, mark, MarkDone}
use Rattle.stores.specs.Store as St

-- a start
module _ (bad : Bool) (clock room beside_room : ℕ) where
  pub refuses_settings : bad ≡ true → start_refusal bad clock room beside_room ≡ 1
  unfolding start_refusal
  refuses_settings e = rw e

  pub takes_settings : bad ≡ false
      → start_refusal bad clock room beside_room ≡ (if not (eqb clock 6) then 1 else if ltb room 2048 then 2 else if ltb beside_room 576 then 37 else 0)
  unfolding start_refusal
  takes_settings e = rw e

pub ruleset start_refusal_laws = (rules, tests, refuses_settings, takes_settings)

-- settings are bad exactly if preparing says so, given the words
pub prepared_bad : (settings : List ℕ) (n : ℕ) → store_words ≤ n → not (eqb (preparing settings n) 0) ≡ settings_bad settings
unfolding St.preparing settings_bad
prepared_bad settings n h = go (settings_of settings) refl
  where
    go : (o : Option Settings) → settings_of settings ≡ o → not (eqb (preparing settings n) 0) ≡ settings_bad settings
    go None e = rw (preparing, settings_bad, e)
    go (Some T) e = simp (preparing, settings_bad, e, tests)

-- six octets as a number give the six octets back
clock_kept : (clock : List ℕ) → ((i : ℕ) → Fits w8 (get_or clock i 0)) → length clock ≡ 6 → octets48 (be48 clock 0) ≡ clock
clock_kept [] k l = absurd (omega arith)
clock_kept (a ∷ []) k l = absurd (omega arith)
clock_kept (a ∷ b ∷ []) k l = absurd (omega arith)
clock_kept (a ∷ b ∷ c ∷ []) k l = absurd (omega arith)
clock_kept (a ∷ b ∷ c ∷ d ∷ []) k l = absurd (omega arith)
clock_kept (a ∷ b ∷ c ∷ d ∷ e ∷ []) k l = absurd (omega arith)
clock_kept (a ∷ b ∷ c ∷ d ∷ e ∷ f ∷ []) k l =
    let a' = k 0 in
    let b' = k 1 in
    let c' = k 2 in
    let d' = k 3 in
    let e' = k 4 in
    let f' = k 5 in
    sym
    (six_octets (be48 (a ∷ b ∷ c ∷ d ∷ e ∷ f ∷ []) 0) a b c d e f (omega arith) (omega arith) (omega arith) (omega arith) (omega arith) (omega arith))
clock_kept (a ∷ b ∷ c ∷ d ∷ e ∷ f ∷ g ∷ clock) k l = absurd (omega arith)

module _ (settings clock : List ℕ) (room beside_room : ℕ) (w : List ℕ) (k : (i : ℕ) → Fits w8 (get_or clock i 0)) where
  pub starts_few : length w < 168 → Started settings clock room beside_room w w 2
  starts_few a =
      record {
        answered = simp tests;
        refused = λ _. refl;
        same_length = refl;
        begun = λ b. absurd (omega arith);
        clock_kept = clock_kept clock k;
        store = λ b. absurd (omega arith);
      }

  pub starts : 168 ≤ length w → (w1 : List ℕ) (p r n : ℕ) → Prepared settings (drop 4 w) (drop 4 w1) p
      → (k : ℕ) → k ≡ start_refusal (not (eqb p 0)) (length clock) room beside_room → r ≡ k → n ≡ be48 clock 0 → length w1 ≡ length w
      → (w' : List ℕ) → w' ≡ n ∷ 0 ∷ r ∷ 0 ∷ drop 4 w1 → Started settings clock room beside_room w w' r
  starts a w1 p r n prepared k' is' r' m same w' e =
      let is = r' ∙ is' in
      let l : store_words ≤ length (drop 4 w) = rw length-drop (omega arith) in
      record {
        answered = simp (tests, ← prepared_bad settings (length (drop 4 w)) l, ← prepared.answered) is;
        refused = λ b. absurd (omega arith);
        same_length = rw (e, length-drop) (omega arith);
        begun = λ b. rw (e, m);
        clock_kept = clock_kept clock k;
        store = λ b. rw e (rw prepared.answered at prepared);
      }

pub ruleset start_laws = (rules, starts_few, starts)

-- a burst
pub burst_done : (a : Burst) (r : ℕ) (w g : List ℕ) → a ≡ saying r w g → BurstDone a r w g
burst_done a r w g e = rw e (record { answer = refl; words = refl; gathered = refl })

module _ (w g b : List ℕ) (a : 168 ≤ length w) where
  pub burst_ended : (get_or w 3 0 ≡ 0 → ⊥) → burst w g b ≡ saying 36 w g
  unfolding burst
  burst_ended e = simp tests

  module _ (o : get_or w 3 0 ≡ 0) where
    pub burst_early : (get_or w 2 0 % 65536 ≡ 0 → ⊥) → burst w g b ≡ saying (get_or w 2 0 % 65536) w g
    unfolding burst
    burst_early e = simp tests

    module _ (s : get_or w 2 0 % 65536 ≡ 0) (l : 2048 ≤ length g) where
      pub burst_over : 2048 < get_or w 1 0 + length b → burst w g b ≡ saying 3 (set w 2 3) g
      unfolding burst
      burst_over e = simp tests

      pub burst_on : get_or w 1 0 + length b ≤ 2048 → burst w g b ≡ saying 0 (set w 1 (get_or w 1 0 + length b)) (put g (get_or w 1 0) b)
      unfolding burst
      burst_on e = simp tests

-- the tests that stop a burst or a mark, of which the first that holds says why
module _ (n : ℕ) where
  abbrev tested : (a b c d : Bool) → Result Unit Stopped
  tested a b c d =
      if a then Err (Refused N.OutputShort) else if b then Err (Refused N.FrameEnded) else if c then Err (Early n) else if d then Err (Refused N.OutputShort)
      else Ok tt

  none_held : (a b c d : Bool) (u : Unit) → tested a b c d ≡ Ok u → (a ≡ false) × (b ≡ false) × (c ≡ false) × (d ≡ false)
  none_held true b c d u e = cc
  none_held false true c d u e = cc
  none_held false false true d u e = cc
  none_held false false false true u e = cc
  none_held false false false false u e = (refl, refl, refl, refl)

  module _ {A : Type 0} (says : ℕ → A) (early other : A) where
    abbrev first_says : (a b c d : Bool) → A
    first_says a b c d = if a then says 2 else if b then says 36 else if c then early else if d then says 2 else other

    refusal_says : (a b c d : Bool) (m : Number) → tested a b c d ≡ Err (Refused m) → first_says a b c d ≡ says (number_of m)
    refusal_says true b c d m e = cc
    refusal_says false true c d m e = cc
    refusal_says false false true d m e = cc
    refusal_says false false false true m e = cc
    refusal_says false false false false m e = cc

    early_says : (a b c d : Bool) (m : ℕ) → tested a b c d ≡ Err (Early m) → (a ≡ false) × (first_says a b c d ≡ early) × (n ≡ m)
    early_says true b c d m e = cc
    early_says false true c d m e = cc
    early_says false false true d m e = (refl, refl, cc)
    early_says false false false true m e = cc
    early_says false false false false m e = cc

-- what is known of the words where nothing stops
pub record Going (w : List ℕ) (room : ℕ) : Type 0 where
  pub words : 168 ≤ length w
  pub open' : get_or w 3 0 ≡ 0
  pub early : get_or w 2 0 % 65536 ≡ 0
  pub lent : 2048 ≤ room

module _ (w : List ℕ) (room : ℕ) (x : Result Unit Stopped) (is : x ≡ stopped w room) where
  pub going : (u : Unit) → x ≡ Ok u → Going w room
  unfolding stopped
  going u e =
      let k = none_held (early_in w) (ltb (length w) 168) (ended_in w) (not (eqb (early_in w) 0)) (ltb room 2048) u (sym is ∙ e) in
      record {
        words = omega (arith, ltb-false (length w) 168 k.0);
        open' = eqb-true (get_or w 3 0) 0 (not-false (eqb (get_or w 3 0) 0) k.1);
        early = eqb-true (early_in w) 0 (not-false (eqb (early_in w) 0) k.2);
        lent = omega (arith, ltb-false room 2048 k.3);
      }

  module _ {A : Type 0} (says : ℕ → A) (early other : A) where
    abbrev by_tests : A
    by_tests = first_says (early_in w) says early other (ltb (length w) 168) (ended_in w) (not (eqb (early_in w) 0)) (ltb room 2048)

    refusal_by : (m : Number) → x ≡ Err (Refused m) → by_tests ≡ says (number_of m)
    unfolding stopped
    refusal_by m e =
        refusal_says (early_in w) says early other (ltb (length w) 168) (ended_in w) (not (eqb (early_in w) 0)) (ltb room 2048) m (sym is ∙ e)

    early_by : (m : ℕ) → x ≡ Err (Early m) → (ltb (length w) 168 ≡ false) × (by_tests ≡ early) × (early_in w ≡ m)
    unfolding stopped
    early_by m e =
        early_says (early_in w) says early other (ltb (length w) 168) (ended_in w) (not (eqb (early_in w) 0)) (ltb room 2048) m (sym is ∙ e)

pub ruleset goes_on_laws = (rules, tests)

module _ (w g b : List ℕ) (x : Result Unit Stopped) (is : x ≡ stopped w (length g)) where
  abbrev taken_in : Burst
  taken_in =
      if ltb frame_most (count_in w + length b) then saying 3 (with_early w 3) g
      else saying 0 (with_count w (count_in w + length b)) (put g (count_in w) b)

  stops : (s : Stopped) → x ≡ Err s → burst w g b ≡ saying (said_by s) w g
  unfolding burst
  stops (Refused m) e = refusal_by w (length g) x is (λ (n : ℕ). saying n w g) (saying (early_in w) w g) taken_in m e
  stops (Early m) e =
      let k = early_by w (length g) x is (λ (n : ℕ). saying n w g) (saying (early_in w) w g) taken_in m e in
      k.1 ∙ ap (λ (n : ℕ). saying n w g) k.2

  pub burst_stops : (s : Stopped) → x ≡ Err s → (y : Result Unit Stopped) → y ≡ Err s → BurstDone (burst w g b) (said_of y) w g
  burst_stops s e y z = rw z (burst_done (burst w g b) (said_by s) w g (stops s e))

  module _ (u : Unit) (on : x ≡ Ok u) (end : ℕ) (sum : end ≡ min (get_or w 1 0 + length b) 18446744073709551615) where
    pub burst_long : 2048 < end → BurstDone (burst w g b) 3 (set w 2 3) g
    burst_long h =
        let k = going w (length g) x is u on in
        burst_done (burst w g b) 3 (set w 2 3) g (burst_over w g b k.words k.open' k.early k.lent (omega arith))

    pub burst_copied : end ≤ 2048 → (g' : List ℕ) (there : ℕ) → Wrote (fitting g (get_or w 1 0) b) (get_or w 1 0) there g g'
        → BurstDone (burst w g b) 0 (set w 1 there) g'
    burst_copied h g' there p =
        let k = going w (length g) x is u on in
        let few : get_or w 1 0 + length b ≤ 2048 = omega arith in
        let written = copied p refl (omega (arith, k.lent)) in
        burst_done (burst w g b) 0 (set w 1 there) g' (rw (written.ends, written.after) (burst_on w g b k.words k.open' k.early k.lent few))

pub ruleset burst_laws = (rules, burst_stops, burst_long, burst_copied)

-- the octets gathered
pub gathered_octets : (g : List ℕ) (count : ℕ) (got : Option (Bor (List ℕ))) (all : Bor (List ℕ)) → all.now ≡ g → IsGetRangeResult g 0 count got
    → (unwrap_or got all).now ≡ take count g
gathered_octets g count None all e r = e ∙ sym (take_all count g (elim r.0 [ inl h ↦ absurd (omega (arith, h)) | inr h ↦ omega (arith, h) ]))
gathered_octets g count (Some x) all e r =
    let z : count - 0 ≡ count = omega arith in
    r.0.2 ∙ rw z

-- the handling at a mark
pub store_lent : (w : List ℕ) → 4 ≤ length w → take (length w - 4) (drop 4 w) ≡ drop 4 w
store_lent w h = rw (← length-drop 4 w, take-length)

pub handled_gathered : (w g : List ℕ) (room beside_room : ℕ) (out out' beside beside' : List ℕ) (r : Answer) → 168 ≤ length w
    → (clock frame : List ℕ) → clock ≡ octets48 (get_or w 0 0) → frame ≡ take (get_or w 1 0) g
    → Both (handled_in (take (length w - 4) (drop 4 w)) clock room beside_room frame) r out out' beside beside'
    → Both (gathered_handled w g room beside_room) r out out' beside beside'
unfolding gathered_handled
handled_gathered w g room beside_room out out' beside beside' r h clock frame c f both = rw (c, f, store_lent w (omega arith)) at both

pub ruleset handle_gathered_laws = (rules, handled_gathered, gathered_octets)

-- a mark
module _ (w g : List ℕ) (room beside_room : ℕ) (a : 168 ≤ length w) where
  pub mark_ended : (get_or w 3 0 ≡ 0 → ⊥) → mark w g room beside_room ≡ marking (dropped 36) w
  unfolding mark
  mark_ended e = simp tests

  module _ (o : get_or w 3 0 ≡ 0) where
    pub mark_early : (get_or w 2 0 % 65536 ≡ 0 → ⊥) → mark w g room beside_room ≡ marking (dropped (get_or w 2 0 % 65536)) (set w 3 1)
    unfolding mark
    mark_early e = simp tests

    module _ (s : get_or w 2 0 % 65536 ≡ 0) where
      pub mark_whole : 2048 ≤ length g → mark w g room beside_room ≡ marking (gathered_handled w g room beside_room) (set w 3 1)
      unfolding mark
      mark_whole l = simp tests

module _ (w g : List ℕ) (x : Result Unit Stopped) (is : x ≡ stopped w (length g)) where
  pub early_words : (s : Stopped) (m : ℕ) → x ≡ Err s → s ≡ Early m → 168 ≤ length w
  early_words s m e q = omega (arith, ltb-false (length w) 168 (early_by w (length g) x is (λ (n : ℕ). n) 0 0 m (rw q at e)).0)

  module _ (room beside_room : ℕ) where
    abbrev handles : Mark
    handles = marking (gathered_handled w g room beside_room) (with_end w)

    pub mark_goes : (u : Unit) → x ≡ Ok u → mark w g room beside_room ≡ marking (gathered_handled w g room beside_room) (set w 3 1)
    mark_goes u e = let k = going w (length g) x is u e in mark_whole w g room beside_room k.words k.open' k.early k.lent

    pub mark_refuses : (s : Stopped) (m : Number) (n : ℕ) → x ≡ Err s → s ≡ Refused m → n ≡ number_of m
        → mark w g room beside_room ≡ marking (dropped n) w
    unfolding mark
    mark_refuses s m n e q k =
        rw k (refusal_by w (length g) x is (λ (n : ℕ). marking (dropped n) w) (marking (dropped (early_in w)) (with_end w)) handles m (rw q at e))

    pub mark_repeats : (s : Stopped) (m : ℕ) → x ≡ Err s → s ≡ Early m → mark w g room beside_room ≡ marking (dropped m) (set w 3 1)
    unfolding mark
    mark_repeats s m e q =
        let k = early_by w (length g) x is (λ (n : ℕ). marking (dropped n) w) (marking (dropped (early_in w)) (with_end w)) handles m (rw q at e) in
        k.1 ∙ ap (λ (n : ℕ). marking (dropped n) (with_end w)) k.2

module _ (a : Mark) (w' out beside : List ℕ) (r : Answer) where
  pub mark_drops : (n : ℕ) → r ≡ answer_of (dropped n) → a ≡ marking (dropped n) w' → MarkDone a r w' out out beside beside
  mark_drops n e m = rw m (record { both = record { answer = e; after = sym (put_none out 0); after_beside = sym (put_none beside 0) }; words = refl })

  pub mark_handles : (h : Handled) (out' beside' : List ℕ) → Both h r out out' beside beside' → a ≡ marking h w' → MarkDone a r w' out out' beside beside'
  mark_handles h out' beside' both m = rw m (record { both = both; words = refl })

pub ruleset mark_laws = (rules, mark_drops, mark_handles, mark_goes, mark_refuses, mark_repeats)

-- the words lent to be the store come back in their place
pub stored : (settings w ys : List ℕ) (r : ℕ) → 4 ≤ length w → Prepared settings (take (length w - 4) (drop 4 w)) ys r
    → Prepared settings (drop 4 w) (drop 4 (put_mid 4 (length w - 4) w ys)) r
stored settings w ys r h p = rw back (rw (store_lent w h) at p)
  where
    back : drop 4 (put_mid 4 (length w - 4) w ys) ≡ ys
    back =
        drop_at (take 4 w) (ys ++ post_of 4 (length w - 4) w) 4 (length-take-le 4 w h)
        ∙ ap (λ (l : List ℕ). ys ++ l) (Post-is 4 (length w) w h ∙ drop-length w)
        ∙ append-nil ys

pub ruleset prepare_store_laws = (rules, stored)

-- the first four words
pub begins : (w : List ℕ) (clock early : ℕ) → 4 ≤ length w → set (set (set (set w 0 clock) 1 0) 2 early) 3 0 ≡ clock ∷ 0 ∷ early ∷ 0 ∷ drop 4 w
begins w clock early h = sets-eq (clock ∷ 0 ∷ early ∷ 0 ∷ []) w 0 h

pub ruleset begin_laws = (rules, lt_of_lt_of_le, begins)
