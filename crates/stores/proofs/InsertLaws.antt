-- A record put in at its index among records that stand for settings' records: they then stand for those with the record behind them.
-- Its index by what a search by halving comes to, the rest by position, and by `row_slide`, which takes the record from its index to the end.
use Prim.Native.Nat.{ℕ, zero, suc, ◌+◌, ◌-◌, ◌*◌, ◌/◌, ◌%◌, ◌≤◌, ◌<◌}
use mathlib.Core.Path.{◌≡◌, refl, sym, ap, ◌∙◌}
use mathlib.Core.List.{List, [], ◌∷◌, ◌++◌}
use mathlib.Core.Bool.{Bool, true, false, ◌||◌, ◌&&◌}
use native.Mathlib.Omega.{arith}
use native.Mathlib.Nat.{zero-add}
use lib.ListN.{length, get_or, set, take, drop, length-set, length-append, get_or-append}
use lib.Seq.{get_or-set_same, get_or-set_other, get_or-take, get_or-drop, get_or-append-add, length-take-le, ext_get_or}
use lib.Dec.{eqb, ltb, leb}
use borrow.Author.Tests.{eqb-true, eqb-false, ltb-true, ltb-false, leb-true}
use Rattle.rules.specs.Octets.{part, put}
use Rattle.rules.proofs.OctetLaws.{length_put, length_part}
use Rattle.rules.proofs.TestLaws.{by_test, and_true, or_yes, or_no, or_assoc, by_order, by_equal, tests}
use Rattle.rules.specs.declared.NextHop.{NextHop}
use Rattle.stores.specs
use specs.Store.{first_at, second_at, rank_at, hop_of, hop_at, hops_from, Ordered, StandsFor}
use specs.Halving.{six_times}
use specs.Insert.{first_word, second_word, below_at, index_for, met_at, met_in, put_in, inserted_in, IndexFor, Shifted, PutIn, With}
use Rattle.stores.proofs.HalvingLaws.{reached, beyond}
use Rattle.stores.proofs.RulingLaws.{rank_rises, row_slide, hops_split, hops_at, fold_append}
use Rattle.rules.specs.Settings as S

-- the fields of a record are in range, as those read from octets are
pub record Fitting (r : NextHop) : Type 0 where
  pub serial_fits : r.serial < 4294967296
  pub neighbour_fits : r.neighbour < 65536
  pub vlan_fits : r.vlan < 65536

pub fitting : (v : List ℕ) → Fitting (S.hop_of v)
fitting v = omega arith

-- the index for a rank
module _ (w : List ℕ) (rank n : ℕ) where
  below_is : (j : ℕ) → below_at w n rank (suc j) ≡ (leb (suc j) n && ltb (rank_at w j) rank)
  unfolding below_at
  below_is j =
      let e : 2 + 2 * suc j ≡ 4 + 2 * j = omega arith in
      rw e

  below_true : (j p : ℕ) → suc j ≡ p → below_at w n rank p ≡ true → (p ≤ n) × (rank_at w j < rank)
  below_true j p e t =
      let b = and_true (leb (suc j) n) (ltb (rank_at w j) rank) (sym (below_is j) ∙ rw e t) in
      (rw e at (leb-true (suc j) n b.0), ltb-true (rank_at w j) rank b.1)

  below_false : (j : ℕ) → below_at w n rank (suc j) ≡ false → j < n → rank ≤ rank_at w j
  below_false j f h = ltb-false (rank_at w j) rank (simp tests at (sym (below_is j) ∙ f))

  below_past : (j : ℕ) → (j < n → rank ≤ rank_at w j) → below_at w n rank (suc j) ≡ false
  below_past j h =
      by_order j n
      (λ l.
      let above = h l in
      below_is j ∙ simp tests)
      (λ l. below_is j ∙ simp tests)

  -- where the halving comes to
  abbrev found : ℕ
  found = six_times (below_at w n rank)

  found_below : (j : ℕ) → suc j ≡ found → (found ≤ n) × (rank_at w j < rank)
  found_below j e = below_true j found e (reached (below_at w n rank) (omega arith))

  pub index_most : index_for w rank n ≤ n
  unfolding index_for
  index_most =
      by_test (below_at w n rank n) (λ t. rw t (omega arith)) (λ f. rw f
      (by_order 0 found (λ z. (found_below (found - 1) (omega arith)).0) (λ z. omega arith)))

  module _ (o : Ordered w n) where
    falls : (i j : ℕ) → 0 < i → i ≤ j → below_at w n rank i ≡ false → below_at w n rank j ≡ false
    falls i j z h f =
        let ei : i ≡ suc (i - 1) = omega arith in
        let ej : j ≡ suc (j - 1) = omega arith in
        rw ej (below_past (j - 1) (λ l. omega (arith, below_false (i - 1) (rw ei at f) (omega arith), rank_rises o (i - 1) (j - 1) (omega arith) l)))

    ends : below_at w n rank n ≡ false → (j : ℕ) → 64 ≤ j → below_at w n rank j ≡ false
    ends f j h =
        by_order n j
        (λ l.
        let e : j ≡ suc (j - 1) = omega arith in
        rw e (below_past (j - 1) (λ m. absurd (omega arith))))
        (λ l.
        let e : j ≡ n = omega (arith, o.few) in
        rw e f)

    placed : IndexFor w n rank (index_for w rank n)
    unfolding index_for
    placed =
        by_test (below_at w n rank n)
        (λ t. rw t (record { within = omega arith; above = λ j a b. absurd (omega arith); below = λ j e. (below_true j n e t).1 }))
        (λ f. rw f
        (record {
          within = rw f at index_most;
          above = λ j a. below_false j (beyond (below_at w n rank) falls (ends f) (suc j) (omega arith));
          below = λ j e. (found_below j e).1;
        }))

-- a word of a buffer after something was written into it
module _ (d : List ℕ) (at : ℕ) (s : List ℕ) (room : at + length s ≤ length d) where
  start_long : length (take at d) ≡ at
  start_long = length-take-le at d (omega arith)

  head_long : length (take at d ++ s) ≡ at + length s
  head_long = rw (length-append, start_long)

  pub put_before : (j : ℕ) → j < at → get_or (put d at s) j 0 ≡ get_or d j 0
  unfolding put
  put_before j h =
      let a : j < length (take at d ++ s) = omega (arith, head_long) in
      let b : j < length (take at d) = omega (arith, start_long) in
      rw (get_or-append, get_or-append, get_or-take)

  pub put_inside : (j k : ℕ) → j ≡ at + k → k < length s → get_or (put d at s) j 0 ≡ get_or s k 0
  unfolding put
  put_inside j k e h =
      let a : at + k < length (take at d ++ s) = omega (arith, head_long) in
      rw (e, get_or-append) (rw start_long at (get_or-append-add (take at d) s k 0))

  pub put_beyond : (j k : ℕ) → j ≡ at + length s + k → get_or (put d at s) j 0 ≡ get_or d j 0
  unfolding put
  put_beyond j k e = rw e ((rw head_long at (get_or-append-add (take at d ++ s) (drop (at + length s) d) k 0)) ∙ get_or-drop (at + length s) d k 0)

-- the words with a record put in, word by word
module _ (w : List ℕ) (n first second p : ℕ) (within : p ≤ n) (room : 6 + 2 * n ≤ length w) where
  abbrev at : ℕ
  at = 4 + 2 * p

  abbrev new : List ℕ
  new = first ∷ second ∷ part w at (2 * (n - p))

  up_long : length (part w at (2 * (n - p))) ≡ 2 * (n - p)
  up_long = length_part w at (2 * (n - p)) (omega arith)

  new_room : at + length new ≤ length w
  new_room = omega (arith, up_long)

  pub put_in_lem : PutIn w n first second p (put_in w n first second p)
  unfolding put_in
  put_in_lem =
      record {
        shifted =
            record {
              size = length_put w at new new_room;
              before = put_before w at new new_room;
              moved = up;
              beyond = λ j h. put_beyond w at new new_room j (j - (6 + 2 * n)) (omega (arith, up_long));
            };
        here_first = put_inside w at new new_room at 0 (omega arith) (omega arith);
        here_second = put_inside w at new new_room (5 + 2 * p) 1 (omega arith) (omega arith);
      }
    where
      up : (j : ℕ) → at ≤ j → j < 4 + 2 * n → get_or (put w at new) (j + 2) 0 ≡ get_or w j 0
      up j a b =
          let e : at + (j - at) ≡ j = omega arith in
          put_inside w at new new_room (j + 2) (suc (suc (j - at))) (omega arith) (omega (arith, up_long))
          ∙ get_or-take (2 * (n - p)) (drop at w) (j - at) 0 (omega arith)
          ∙ (rw e at (get_or-drop at w (j - at) 0))

  -- words moved up and two written are these
  pub put_at_is : (v : List ℕ) → Shifted w (4 + 2 * p) (4 + 2 * n) v → set (set v (4 + 2 * p) first) (5 + 2 * p) second ≡ put_in w n first second p
  put_at_is v s =
      ext_get_or 0 u (put_in w n first second p) (simp length-set s.size ∙ sym q.size) (λ j h.
      by_order j at (λ l. other j (omega arith) (omega arith) ∙ s.before j l ∙ sym (q.before j l)) (λ l.
      by_equal j at (λ e. rw e (first_there ∙ sym put_in_lem.here_first)) (λ a.
      by_equal j (5 + 2 * p) (λ e. rw e (second_there ∙ sym put_in_lem.here_second)) (λ b.
      other j a b ∙ by_order j (6 + 2 * n) (λ m. behind j (omega (arith, a, b)) m) (λ m. s.beyond j (omega arith) ∙ sym (q.beyond j (omega arith)))))))
    where
      u : List ℕ
      u = set (set v at first) (5 + 2 * p) second

      q : Shifted w at (4 + 2 * n) (put_in w n first second p)
      q = put_in_lem.shifted

      other : (j : ℕ) → (j ≡ at → ⊥) → (j ≡ 5 + 2 * p → ⊥) → get_or u j 0 ≡ get_or v j 0
      other j a b = rw (get_or-set_other, get_or-set_other)

      first_there : get_or u at 0 ≡ first
      first_there = get_or-set_other (set v at first) (5 + 2 * p) at second 0 (omega arith) ∙ get_or-set_same v at first 0 (omega (arith, s.size))

      second_there : get_or u (5 + 2 * p) 0 ≡ second
      second_there = get_or-set_same (set v at first) (5 + 2 * p) second 0 (rw length-set (omega (arith, s.size)))

      behind : (j : ℕ) → 6 + 2 * p ≤ j → j < 6 + 2 * n → get_or v j 0 ≡ get_or (put_in w n first second p) j 0
      behind j l m =
          let e : j - 2 + 2 ≡ j = omega arith in
          rw e at (s.moved (j - 2) (omega arith) (omega arith) ∙ sym (q.moved (j - 2) (omega arith) (omega arith)))

-- a record at its index
module _ (w : List ℕ) (n first second : ℕ) where
  abbrev rank : ℕ
  rank = first / 65536

  abbrev index : ℕ
  index = index_for w rank n

  pub inserted_met : met_in w n rank ≡ true → inserted_in w n first second ≡ w
  unfolding inserted_in
  inserted_met m = rw m

  module _ (m : met_in w n rank ≡ false) where
    pub inserted_new : inserted_in w n first second ≡ put_in w n first second index
    unfolding inserted_in
    inserted_new = rw m

    pub inserted_so : 6 + 2 * n ≤ length w → PutIn w n first second index (inserted_in w n first second)
    inserted_so room = rw inserted_new (put_in_lem w n first second index (index_most w rank n) room)

    with_record_lem : Ordered w n → 6 + 2 * n ≤ length w → With w n first second index (inserted_in w n first second)
    unfolding met_in met_at
    with_record_lem o room = record { index = placed w rank n o; fresh = fresh; put = inserted_so room }
      where
        fresh : index < n → rank < rank_at w index
        fresh h = omega (arith, eqb-false (rank_at w index) rank (simp tests at m), (placed w rank n o).above index (omega arith) h)

  pub inserted_long : 6 + 2 * n ≤ length w → length (inserted_in w n first second) ≡ length w
  inserted_long room = by_test (met_in w n rank) (λ t. rw (inserted_met t)) (λ t. (inserted_so t room).shifted.size)

  pub met_record : met_in w n rank ≡ true → (index < n) × (rank_at w index ≡ rank)
  unfolding met_in met_at
  met_record m =
      let b = and_true (ltb index n) (eqb (rank_at w index) rank) m in
      (ltb-true index n b.0, eqb-true (rank_at w index) rank b.1)

-- rows that agree, or that agree one index up
row_same : (w v : List ℕ) (up : ℕ → ℕ) → ((m : ℕ) → suc (up m) ≡ up (suc m)) → (k i : ℕ) → ((m : ℕ) → i ≤ m → m < i + k → hop_at v (up m) ≡ hop_at w m)
    → hops_from v (up i) k ≡ hops_from w i k
unfolding hops_from
row_same w v up e zero i h = refl
row_same w v up e (suc k) i h = rw (h i (omega arith) (omega arith), e i, row_same w v up e k (suc i) (λ m a b. h m (omega arith) (omega arith)))

-- ranks that rise from each record to the next rise
rises_all : (v : List ℕ) (n : ℕ) → ((i : ℕ) → suc i < n → rank_at v i < rank_at v (suc i)) → (i j : ℕ) → i < j → j < n → rank_at v i < rank_at v j
rises_all v n next i zero a b = absurd (omega arith)
rises_all v n next i (suc j) a b =
    by_order i j (λ l. omega (arith, next j b, rises_all v n next i j l (omega arith))) (λ l.
    let e : i ≡ j = omega arith in
    rw e (next j b))

met_append : (x : NextHop) (l m : List NextHop) → S.serial_met x (l ++ m) ≡ (S.serial_met x l || S.serial_met x m)
unfolding S.serial_met
met_append x [] m = refl
met_append x (q ∷ l) m = rw (met_append x l m, or_assoc)

or_turn : (a b c : Bool) → (a || (c || b)) ≡ ((a || b) || (c || false))
or_turn true b c = refl
or_turn false b true = sym (or_yes b)
or_turn false b false = sym (or_no b)

module _ {w : List ℕ} {n first second p : ℕ} {v : List ℕ} (o : Ordered w n) (t : With w n first second p v) where
  within : p ≤ n
  within = t.index.within

  at_before : (i : ℕ) → i < p → (first_at v i ≡ first_at w i) × (second_at v i ≡ second_at w i)
  at_before i h = (t.put.shifted.before (4 + 2 * i) (omega arith), t.put.shifted.before (5 + 2 * i) (omega arith))

  at_moved : (k : ℕ) → p ≤ k → k < n → (first_at v (suc k) ≡ first_at w k) × (second_at v (suc k) ≡ second_at w k)
  at_moved k a b =
      let e : 4 + 2 * suc k ≡ 4 + 2 * k + 2 = omega arith in
      let f : 5 + 2 * suc k ≡ 5 + 2 * k + 2 = omega arith in
      (rw e (t.put.shifted.moved (4 + 2 * k) (omega arith) (omega arith)), rw f (t.put.shifted.moved (5 + 2 * k) (omega arith) (omega arith)))

  in_order : n < 64 → Ordered v (suc n)
  in_order few = record { few = few; rises = rises_all v (suc n) next }
    where
      next : (i : ℕ) → suc i < suc n → rank_at v i < rank_at v (suc i)
      next i b =
          by_order i p
          (λ l. by_equal (suc i) p
          (λ e. rw e (omega (arith, at_before i l, t.index.below i e, t.put.here_first)))
          (λ e. omega (arith, at_before i l, at_before (suc i) (omega (arith, e)), o.rises i (suc i) (omega arith) (omega (arith, within)))))
          (λ l. by_equal i p
          (λ e. rw e (omega (arith, t.put.here_first, at_moved p (omega arith) (omega arith), t.fresh (omega arith))))
          (λ e.
          let f : i ≡ suc (i - 1) = omega (arith, e) in
          let moved = rw (← f) at (at_moved (i - 1) (omega (arith, e)) (omega arith)) in
          omega (arith, moved, at_moved i l (omega arith), o.rises (i - 1) i (omega (arith, e)) (omega arith))))

  -- the records with the new one at its index
  module _ (r : NextHop) (is_r : hop_at v p ≡ r) where
    hops_with : hops_from v 0 (suc n) ≡ hops_from w 0 p ++ (r ∷ hops_from w p (n - p))
    unfolding hop_at
    hops_with =
        let e : suc n - suc p ≡ n - p = omega arith in
        hops_at v (suc n) p (omega (arith, within))
        ∙ rw (
          is_r,
          e,
          row_same w v (λ m. m) (λ m. refl) p 0 (λ m a b. let same = at_before m (omega arith) in rw (same.0, same.1)),
          row_same w v suc (λ m. refl) (n - p) p (λ m a b. let same = at_moved m a (omega arith) in rw (same.0, same.1)),
        )

    hops_without : hops_from w 0 n ≡ hops_from w 0 p ++ hops_from w p (n - p)
    hops_without =
        let a : n ≡ p + (n - p) = omega (arith, within) in
        ap (hops_from w 0) a ∙ hops_split w p 0 (n - p) ∙ rw zero-add

    ruling_with : ((j : ℕ) → j < n → (hop_at w j).destination ≡ r.destination → (hop_at w j).serial ≡ r.serial → ⊥) → (d : ℕ)
        → S.ruling (hops_from v 0 (suc n)) d ≡ S.newer d (S.ruling (hops_from w 0 n) d) r
    unfolding S.ruling
    ruling_with apart d = rw (hops_with, hops_without) (simp fold_append (row_slide d w (n - p) p _ r (λ j a b. apart j (omega (arith, within)))))

    met_with : (x : NextHop) → S.serial_met x (hops_from v 0 (suc n)) ≡ (S.serial_met x (hops_from w 0 n) || S.serial_met x (r ∷ []))
    unfolding S.serial_met
    met_with x =
        rw (hops_with, hops_without)
        (simp met_append
        (or_turn (S.serial_met x (hops_from w 0 p)) (S.serial_met x (hops_from w p (n - p)))
        (eqb r.destination x.destination && eqb r.serial x.serial)))

hop_back : (r : NextHop) → Fitting r → hop_of (first_word r) (second_word r) ≡ r
hop_back r f =
    let a : first_word r / 281474976710656 ≡ r.destination = omega arith in
    let b : second_word r % 65536 ≡ r.neighbour = omega arith in
    let c : second_word r / 65536 ≡ r.mac = omega arith in
    let e : first_word r / 65536 % 4294967296 ≡ r.serial = omega arith in
    let g : first_word r % 65536 ≡ r.vlan = omega arith in
    rw (a, b, c, e, g)

row_unmet : (w : List ℕ) (r : NextHop) (k i : ℕ)
    → ((j : ℕ) → i ≤ j → j < i + k → (hop_at w j).destination ≡ r.destination → (hop_at w j).serial ≡ r.serial → ⊥) → S.serial_met r (hops_from w i k) ≡ false
unfolding hops_from S.serial_met
row_unmet w r zero i h = refl
row_unmet w r (suc k) i h =
    rw (row_unmet w r k (suc i) (λ j a b. h j (omega arith) (omega arith)), or_no)
    (by_equal (hop_at w i).destination r.destination
    (λ e.
    let n = h i (omega arith) (omega arith) e in
    simp tests)
    (λ n. simp tests))

-- THE INSERTION: a record put in among records that stand for settings' makes them stand for these with it; it is refused exactly if
-- its serial was met
module _ (w : List ℕ) {n : ℕ} (r : NextHop) {hops : List NextHop} (few : n < 64) (room : 6 + 2 * n ≤ length w) (fits : Fitting r) (s : StandsFor w n hops) where
  abbrev index_in : ℕ
  index_in = index_for w (first_word r / 65536) n

  met_so : met_in w n (first_word r / 65536) ≡ true → S.serial_met r hops ≡ true
  unfolding S.serial_met hop_at
  met_so m =
      let t = met_record w n (first_word r) (second_word r) m in
      let x : (hop_at w index_in).destination ≡ r.destination = omega arith in
      let y : (hop_at w index_in).serial ≡ r.serial = omega arith in
      s.same_met r ∙ simp (hops_at w n index_in t.0, met_append, tests, or_yes)

  module _ (m : met_in w n (first_word r / 65536) ≡ false) where
    put_with : With w n (first_word r) (second_word r) index_in (inserted_in w n (first_word r) (second_word r))
    put_with = with_record_lem w n (first_word r) (second_word r) m s.ordered room

    apart : (j : ℕ) → j < n → (hop_at w j).destination ≡ r.destination → (hop_at w j).serial ≡ r.serial → ⊥
    unfolding hop_at
    apart j h x y =
        let o = s.ordered in
        let rises = (in_order o put_with few).rises in
        let first = put_with.put.here_first in
        by_order j index_in
        (λ l. absurd (omega (arith, fits, first, at_before o put_with j l, rises j index_in l (omega (arith, within o put_with)))))
        (λ l. absurd (omega (arith, fits, first, at_moved o put_with j l h, rises index_in (suc j) (omega arith) (omega arith))))

    pub stands_more : StandsFor (inserted_in w n (first_word r) (second_word r)) (suc n) (hops ++ (r ∷ []))
    unfolding S.ruling hop_at
    stands_more =
        let is_r : hop_at (inserted_in w n (first_word r) (second_word r)) (index_in) ≡ r =
        rw (put_with.put.here_first, put_with.put.here_second) (hop_back r fits) in
        record {
          ordered = in_order s.ordered put_with few;
          count = rw length-append (omega (arith, s.count));
          same_ruling = λ d. rw (ruling_with s.ordered put_with r is_r apart d, ← s.same_ruling d, fold_append);
          same_met = λ x. rw (met_with s.ordered put_with r is_r x, ← s.same_met x, met_append);
        }

  pub met_is : met_in w n (first_word r / 65536) ≡ S.serial_met r hops
  met_is =
      by_test (met_in w n (first_word r / 65536)) (λ t. t ∙ sym (met_so t)) (λ f. f ∙ sym (s.same_met r ∙ row_unmet w r n 0 (λ j a c. apart f j (omega arith))))

-- words that agree from the first record on
pub stands_same : (w v : List ℕ) {n : ℕ} {hops : List NextHop} → StandsFor w n hops → ((j : ℕ) → 4 ≤ j → j < 4 + 2 * n → get_or v j 0 ≡ get_or w j 0)
    → StandsFor v n hops
unfolding hop_at
stands_same w v {n} {hops} s same =
    let rows = row_same w v (λ m. m) (λ m. refl) n 0 (λ m a b. rw (first m (omega arith), same (5 + 2 * m) (omega arith) (omega arith))) in
    record {
      ordered = record { few = s.ordered.few; rises = λ i j a b. omega (arith, first i (omega arith), first j b, s.ordered.rises i j a b) };
      count = s.count;
      same_ruling = λ d. rw rows (s.same_ruling d);
      same_met = λ x. rw rows (s.same_met x);
    }
  where
    first : (i : ℕ) → i < n → first_at v i ≡ first_at w i
    first i h = same (4 + 2 * i) (omega arith) (omega arith)
