-- The claim on a reader's life, for every cut. By induction over the bursts: the words and the gathering buffer hold the octets so far, or the early
-- answer.
use Rattle.std.specs.Prelude.{Option, Some, None}
use mathlib.Core.Path.{◌≡◌, refl, sym, ◌∙◌}
use mathlib.Core.List.{List, [], ◌∷◌, ◌++◌, append_assoc, append-nil}
use mathlib.Core.Bool.{Bool, true, false, true≢false}
use Prim.Native.Nat.{ℕ, ◌+◌, ◌%◌, ◌<◌, ◌≤◌}
use native.Mathlib.Omega.{arith}
use borrow.Author.Tests.{eqb-true, not-false}
use lib.ListN.{length, get_or, set, take, drop, replicate, length-append, length-set, length-drop}
use lib.Seq.{take_at, get_or-set_same, get_or-set_other, drop-set-lt, get_or-take}
use Rattle.rules.specs.{Octets.be48, Octets.octets48, Octets.put, Handling.handled}
use Rattle.rules.specs.Settings.{Settings, ways_of, settings_of}
use Rattle.rules.proofs.{TestLaws.by_order, TestLaws.by_equal, TestLaws.tests, HandlingLaws.settings_good, HandlingLaws.frame_long, OctetLaws.length_put}
use Rattle.stores.specs.Store.{store_words, preparing, handled_in}
use Rattle.reader.specs
use specs.Bursts.{settings_bad, start_refusal, Started, Burst, burst, gathered_handled, Mark, mark}
use specs.Life.{joined, Fed, fed, early_at, said, answer_of_whole, Later, later_burst, later_mark, laters, Life, fed_in, mark_in, Claim}
use Rattle.reader.proofs.CallLaws.{prepared_bad, burst_ended, burst_early, burst_over, burst_on, mark_ended, mark_early, mark_whole}

-- the early answer
module _ (start : ℕ) where
  -- none so far: the start gave none, and the octets are few enough
  none_so_far : (n : ℕ) → early_at start n ≡ 0 → (start ≡ 0) × (n ≤ 2048)
  unfolding early_at
  none_so_far n e =
      by_equal start 0
      (λ z. by_order 2048 n (λ h. absurd (omega (arith, simp (early_at, tests) at e))) (λ h. (z, h)))
      (λ z. absurd (z (simp (early_at, tests) at e)))

  -- once there is one, it stays
  early_stays : (n m : ℕ) → n ≤ m → (early_at start n ≡ 0 → ⊥) → early_at start m ≡ early_at start n
  unfolding early_at
  early_stays n m l e =
      by_equal start 0
      (λ z. by_order 2048 n
      (λ h.
      let h' : 2048 < m = omega arith in
      simp (early_at, tests))
      (λ h. absurd (e (simp (early_at, tests)))))
      (λ z. simp (early_at, tests))

  early_small : (n : ℕ) → start < 64 → early_at start n < 64
  unfolding early_at
  early_small n h =
      by_equal start 0
      (λ z. by_order 2048 n (λ l. simp (early_at, tests) (omega arith)) (λ l. simp (early_at, tests) (omega arith)))
      (λ z. simp (early_at, tests) h)

start_small : (bad : Bool) (clock room beside_room : ℕ) → start_refusal bad clock room beside_room < 64
unfolding start_refusal
start_small true clock room beside_room = omega arith
start_small false clock room beside_room =
    by_equal clock 6
    (λ a. by_order room 2048
    (λ b. simp tests (omega arith))
    (λ b. by_order beside_room 576 (λ c. simp tests (omega arith)) (λ c. simp tests (omega arith))))
    (λ a. simp tests (omega arith))

-- what is written at the end of what is held is held with it
held_on : (g s b : List ℕ) → take (length s) g ≡ s → length s + length b ≤ length g → take (length s + length b) (put g (length s) b) ≡ s ++ b
unfolding put
held_on g s b e h = rw e (take_at (s ++ b) (drop (length s + length b) g) (length s + length b) (length-append s b))

-- the words v and the buffer h hold the octets s, or the early answer; the store and the clock are those of the words u
record Holding (start : ℕ) (u v h s : List ℕ) : Type 0 where
  long : 168 ≤ length v
  lent : 2048 ≤ length h
  clock : get_or v 0 0 ≡ get_or u 0 0
  early : get_or v 2 0 ≡ early_at start (length s)
  open' : get_or v 3 0 ≡ 0
  store : drop 4 v ≡ drop 4 u
  held : early_at start (length s) ≡ 0 → (get_or v 1 0 ≡ length s) × (take (length s) h ≡ s)

module _ (start : ℕ) (small : start < 64) (u : List ℕ) where
  module _ (v h s : List ℕ) (k : Holding start u v h s) where
    early_is : get_or v 2 0 % 65536 ≡ early_at start (length s)
    early_is = omega (arith, k.early, early_small start (length s) small)

    -- the number of octets or the early answer set anew
    word_set : (i x : ℕ) → 0 < i → i < 3 → (h' s' : List ℕ) → 2048 ≤ length h' → get_or (set v i x) 2 0 ≡ early_at start (length s')
        → (early_at start (length s') ≡ 0 → (get_or (set v i x) 1 0 ≡ length s') × (take (length s') h' ≡ s')) → Holding start u (set v i x) h' s'
    word_set i x a b h' s' lent early held =
        record {
          long = rw length-set k.long;
          lent = lent;
          clock = rw (get_or-set_other v i 0 x 0 (omega arith)) k.clock;
          early = early;
          open' = rw (get_or-set_other v i 3 x 0 (omega arith)) k.open';
          store = rw (drop-set-lt 4 v i x (omega arith)) k.store;
          held = held;
        }

    -- one burst more, which comes to a
    record Step (s' : List ℕ) (a : Burst) : Type 0 where
      says : a.answer ≡ early_at start (length s')
      holds : Holding start u a.words a.gathered s'

    step : (b : List ℕ) → Step (s ++ b) (burst v h b)
    unfolding early_at
    step b =
        let l = length-append s b in
        by_equal (early_at start (length s)) 0
        (λ e.
        let z = (none_so_far start (length s) e).0 in
        let c = (k.held e).0 in
        by_order 2048 (length (s ++ b))
        (λ o.
        let three : early_at start (length (s ++ b)) ≡ 3 = simp (early_at, tests) in
        rw (burst_over v h b k.long k.open' (early_is ∙ e) k.lent (omega (arith, c, l)))
        (record {
          says = sym three;
          holds =
              word_set 2 3 (omega arith) (omega arith) h (s ++ b) k.lent (get_or-set_same v 2 3 0 (omega (arith, k.long)) ∙ sym three)
              (λ None. absurd (omega (arith, None, three)));
        }))
        (λ o.
        let zero : early_at start (length (s ++ b)) ≡ 0 = simp (early_at, tests) in
        rw (burst_on v h b k.long k.open' (early_is ∙ e) k.lent (omega (arith, c, l)), c)
        (record {
          says = sym zero;
          holds =
              word_set 1 (length s + length b) (omega arith) (omega arith) (put h (length s) b) (s ++ b)
              (rw (length_put h (length s) b (omega (arith, k.lent, l))) k.lent)
              (get_or-set_other v 1 2 (length s + length b) 0 (omega arith) ∙ k.early ∙ e ∙ sym zero)
              (λ None. (
                get_or-set_same v 1 (length s + length b) 0 (omega (arith, k.long)) ∙ sym l,
                rw l (held_on h s b (k.held e).1 (omega (arith, k.lent, l))),
              ));
        })))
        (λ e.
        let stays = early_stays start (length s) (length (s ++ b)) (omega (arith, l)) e in
        rw (burst_early v h b k.long k.open' (rw early_is e))
        (record {
          says = early_is ∙ sym stays;
          holds = record {
            long = k.long;
            lent = k.lent;
            clock = k.clock;
            early = k.early ∙ sym stays;
            open' = k.open';
            store = k.store;
            held = λ None. absurd (e (sym stays ∙ None));
          };
        }))

  -- all bursts
  record FedOn (s : List ℕ) (bs : List (List ℕ)) (f : Fed) : Type 0 where
    says : f.answers ≡ said start (length s) bs
    holds : Holding start u f.words f.gathered (s ++ joined bs)

  fed_on : (bs : List (List ℕ)) (v h s : List ℕ) → Holding start u v h s → FedOn s bs (fed v h bs)
  unfolding fed said joined
  fed_on [] v h s k = record { says = refl; holds = rw append-nil k }
  fed_on (b ∷ bs) v h s k =
      let t = step v h s k b in
      let r = fed_on bs (burst v h b).words (burst v h b).gathered (s ++ b) t.holds in
      record { says = rw (t.says, r.says, length-append); holds = rw (← append_assoc s b (joined bs)) r.holds }

-- a start that said 0 was given good settings and six octets of clock
none_said : (bad : Bool) (clock room beside_room : ℕ) → start_refusal bad clock room beside_room ≡ 0 → (bad ≡ false) × (clock ≡ 6)
unfolding start_refusal
none_said true clock room beside_room e = absurd (omega arith)
none_said false clock room beside_room e = (refl, by_equal clock 6 (λ z. z) (λ n. absurd (omega (arith, simp tests at e))))

good_settings : (settings : List ℕ) → settings_bad settings ≡ false → (S : Settings) × (settings_of settings ≡ Some S)
unfolding settings_bad
good_settings settings e = go (settings_of settings) refl
  where
    go : (w : Option Settings) → settings_of settings ≡ w → (S : Settings) × (settings_of settings ≡ Some S)
    go None g = absurd (true≢false (rw (settings_bad, g) at e))
    go (Some S) g = (S, g)

-- the four words after a start
module _ (l : Life) where
  abbrev made : Started l.settings l.clock l.room l.beside_room l.before l.words l.start
  made = l.started

  word : (i : ℕ) → i < 4 → get_or l.words i 0 ≡ get_or (be48 l.clock 0 ∷ 0 ∷ l.start ∷ 0 ∷ []) i 0
  word i h = sym (get_or-take 4 l.words i 0 h) ∙ rw (made.begun l.enough)

  start_is : l.start ≡ start_refusal (settings_bad l.settings) (length l.clock) l.room l.beside_room
  start_is =
      let enough = l.enough in
      made.answered ∙ simp tests

  small : l.start < 64
  small = rw start_is (start_small (settings_bad l.settings) (length l.clock) l.room l.beside_room)

  holds_nothing : Holding l.start l.words l.words l.gathered []
  unfolding early_at
  holds_nothing =
      record {
        long = omega (arith, made.same_length, l.enough);
        lent = l.lent;
        clock = refl;
        early = word 2 (omega arith) ∙ by_equal l.start 0 (λ z. simp (early_at, z)) (λ n. simp (early_at, tests));
        open' = word 3 (omega arith);
        store = refl;
        held = λ z. (word 1 (omega arith), refl);
      }

  module _ (z : l.start ≡ 0) (room beside_room : ℕ) (f : List ℕ) where
    good : (settings_bad l.settings ≡ false) × (length l.clock ≡ 6)
    good = none_said (settings_bad l.settings) (length l.clock) l.room l.beside_room (sym start_is ∙ z)

    -- the handling by the words is that by the settings
    handles : handled_in (drop 4 l.words) (octets48 (get_or l.words 0 0)) room beside_room f ≡ handled l.settings l.clock room beside_room f
    handles =
        let n = length (drop 4 l.before) in
        let many : store_words ≤ n = rw length-drop (omega (arith, l.enough)) in
        let p : preparing l.settings n ≡ 0 = eqb-true (preparing l.settings n) 0 (not-false _ (prepared_bad l.settings n many ∙ good.0)) in
        rw (word 0 (omega arith), made.clock_kept good.1) ((made.store l.enough).handles p l.clock room beside_room f)

    -- a frame that is too long is 3 for the whole-frame call too
    answers_whole : 2048 ≤ room → 576 ≤ beside_room
        → answer_of_whole l.start l.settings l.clock room beside_room f ≡ handled l.settings l.clock room beside_room f
    unfolding answer_of_whole early_at
    answers_whole r r2 =
        let S = good_settings l.settings good.0 in
        by_order 2048 (length f)
        (λ h. simp (early_at, tests)
        (sym (settings_good l.settings l.clock room beside_room f S.0 S.1
        ∙ frame_long (ways_of S.0) l.clock room beside_room f good.1 r r2 h)))
        (λ h. simp (early_at, tests))

  -- the mark, over words and a buffer that hold the octets
  module _ (v h s : List ℕ) (k : Holding l.start l.words v h s) (room beside_room : ℕ) where
    record Marked (a : Mark) : Type 0 where
      says : a.answer ≡ answer_of_whole l.start l.settings l.clock room beside_room s
      ends : a.words ≡ set v 3 1

    marked : Marked (mark v h room beside_room)
    unfolding answer_of_whole gathered_handled
    marked =
        let is = early_is l.start small l.words v h s k in
        by_equal (early_at l.start (length s)) 0
        (λ e.
        let held = k.held e in
        rw (mark_whole v h room beside_room k.long k.open' (is ∙ e) k.lent)
        (record {
          says = rw (k.store, k.clock, held.0, held.1) (handles (none_so_far l.start (length s) e).0 room beside_room s ∙ simp tests);
          ends = refl;
        }))
        (λ e. rw (mark_early v h room beside_room k.long k.open' (rw is e), is) (record { says = simp tests; ends = refl }))

-- words that a mark has ended
module _ (w g : List ℕ) (long : 168 ≤ length w) (ended : get_or w 3 0 ≡ 1) where
  over : get_or w 3 0 ≡ 0 → ⊥
  over z = omega arith

  ended_later : (cs : List Later) → laters w g cs ≡ record { answers = replicate (length cs) 36; words = w; gathered = g }
  unfolding laters
  ended_later [] = refl
  ended_later (later_burst b ∷ cs) = rw (burst_ended w g b long over, ended_later cs)
  ended_later (later_mark room beside_room ∷ cs) = rw (mark_ended w g room beside_room long over, ended_later cs)

pub claim : (l : Life) → Claim l
claim l =
    let f = fed_on l.start (small l) l.words l.bursts l.words l.gathered [] (holds_nothing l) in
    let v = (fed_in l).words in
    let g = (fed_in l).gathered in
    let k = f.holds in
    let m = marked l v g (joined l.bursts) k (length l.out) (length l.beside) in
    let long : 168 ≤ length (mark_in l).words = rw (m.ends, length-set) k.long in
    let ended : get_or (mark_in l).words 3 0 ≡ 1 = rw m.ends (get_or-set_same v 3 1 0 (omega (arith, k.long))) in
    let closed = over (mark_in l).words g long ended in
    record {
      bursts_say = f.says;
      mark_says = m.says;
      output = rw m.says;
      output_beside = rw m.says;
      whole = λ z r r2. m.says ∙ answers_whole l z (length l.out) (length l.beside) (joined l.bursts) r r2;
      later_bursts = λ b. burst_ended (mark_in l).words g b long closed;
      later_marks = λ room beside_room. mark_ended (mark_in l).words g room beside_room long closed;
      later = ended_later (mark_in l).words g long ended;
    }
