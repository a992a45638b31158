-- A record put into a store as the code does it, where records are counted by their words: one law for each need. By arithmetic and by position.
use Prim.Native.Nat.{ℕ, ◌+◌, ◌-◌, ◌*◌, ◌/◌, ◌%◌, ◌≤◌, ◌<◌}
use mathlib.Core.Path.{◌≡◌, sym, ◌∙◌}
use mathlib.Core.List.{List}
use mathlib.Core.Bool.{Bool, true, false, not, ◌&&◌}
use native.Mathlib.Omega.{arith}
use borrow.Author.Rules.{rules}
use borrow.Author.Tests.{lt-leb, le-leb, lt-ltb, le-ltb}
use lib.Dec.{ltb, leb}
use lib.ListN.{length, get_or, set, drop}
use lib.Seq.{get_or-take, get_or-drop}
use Rattle.std.specs.List.{copy_within}
use Rattle.rules.specs.Octets.{part, put}
use Rattle.rules.proofs.OctetLaws.{length_put, length_part}
use Rattle.rules.proofs.TestLaws.{by_order}
use Rattle.stores.specs
use specs.Halving.{twice_halved}
use specs.Insert.{below_at, index_for, met_at, met_in, put_in, inserted_in, Shifted, Counted, RoomAt}
use Rattle.stores.proofs
use proofs.HalvingLaws.{twice_on, twice_stay}
use proofs.InsertLaws.{index_most, put_at_is, put_before, put_inside, put_beyond}

-- a record below a rank is a word below the least one of that rank
below_bound : (x bound : ℕ) → bound % 65536 ≡ 0 → ltb x bound ≡ ltb (x / 65536) (bound / 65536)
below_bound x bound z =
    by_order x bound
    (λ l. rw (lt-ltb x bound l, lt-ltb (x / 65536) (bound / 65536) (omega arith)))
    (λ l. rw (le-ltb x bound l, le-ltb (x / 65536) (bound / 65536) (omega arith)))

pub below_is : (w : List ℕ) (end bound i : ℕ) → Counted w end bound → i % 2 ≡ 0
    → below_at w (end / 2) (bound / 65536) (i / 2) ≡ (leb i end && ltb (get_or w (2 + i) 0) bound)
unfolding below_at
below_is w end bound i c even =
    let e : 2 + 2 * (i / 2) ≡ 2 + i = omega arith in
    rw (e, below_bound (get_or w (2 + i) 0) bound c.rank)
    (by_order end i
    (λ l. rw (lt-leb i end l, lt-leb (i / 2) (end / 2) (omega (arith, c.records))))
    (λ l. rw (le-leb i end l, le-leb (i / 2) (end / 2) (omega arith))))

pub doubled_even : (r x : ℕ) → r ≡ 2 * x → r % 2 ≡ 0
doubled_even r x e = omega arith

-- two steps at once
module _ (at half : ℕ) (a : at % 2 ≡ 0) (b : half % 2 ≡ 0) where
  pub even_low : (at + half) % 2 ≡ 0
  even_low = omega arith

  pub even_middle : (at + 2 * half) % 2 ≡ 0
  even_middle = omega arith

  pub even_high : (at + 3 * half) % 2 ≡ 0
  even_high = doubled_even (at + 3 * half) (at / 2 + 3 * (half / 2)) (omega arith)

module _ (w : List ℕ) (end bound at half : ℕ) (a : at % 2 ≡ 0) (b : half % 2 ≡ 0) (low middle high : Bool)
    (l : low ≡ below_at w (end / 2) (bound / 65536) ((at + half) / 2)) (m : middle ≡ below_at w (end / 2) (bound / 65536) ((at + 2 * half) / 2))
    (h : high ≡ below_at w (end / 2) (bound / 65536) ((at + 3 * half) / 2)) where
  abbrev P : ℕ → Bool
  P = below_at w (end / 2) (bound / 65536)

  abbrev Comes : ℕ → Type 0
  Comes r = (r ≡ 2 * twice_halved P (at / 2) (half / 2)) × (r ≤ at + 3 * half)

  middle_is : P (at / 2 + 2 * (half / 2)) ≡ middle
  middle_is = let e : at / 2 + 2 * (half / 2) ≡ (at + 2 * half) / 2 = omega arith in rw e (sym m)

  high_is : P (at / 2 + 2 * (half / 2) + half / 2) ≡ high
  high_is = let e : at / 2 + 2 * (half / 2) + half / 2 ≡ (at + 3 * half) / 2 = omega arith in rw e (sym h)

  low_is : P (at / 2 + half / 2) ≡ low
  low_is = let e : at / 2 + half / 2 ≡ (at + half) / 2 = omega arith in rw e (sym l)

  pub steps_high : middle ≡ true → high ≡ true → Comes (at + 3 * half)
  steps_high t u = (rw (twice_on P (at / 2) (half / 2) (middle_is ∙ t), high_is ∙ u) (omega arith), omega arith)

  pub steps_middle : middle ≡ true → high ≡ false → Comes (at + 2 * half)
  steps_middle t u = (rw (twice_on P (at / 2) (half / 2) (middle_is ∙ t), high_is ∙ u) (omega arith), omega arith)

  pub steps_low : middle ≡ false → low ≡ true → Comes (at + half)
  steps_low t u = (rw (twice_stay P (at / 2) (half / 2) (middle_is ∙ t), low_is ∙ u) (omega arith), omega arith)

  pub steps_none : middle ≡ false → low ≡ false → Comes at
  steps_none t u = (rw (twice_stay P (at / 2) (half / 2) (middle_is ∙ t), low_is ∙ u) (omega arith), omega arith)

pub ruleset steps_laws = (rules, even_low, even_middle, even_high)

-- the index for a rank: behind the last record, or by six steps
module _ (w : List ℕ) (end bound : ℕ) (c : Counted w end bound) where
  abbrev next : ℕ → ℕ → ℕ
  next = twice_halved (below_at w (end / 2) (bound / 65536))

  pub index_behind : (last : Bool) → last ≡ below_at w (end / 2) (bound / 65536) (end / 2) → last ≡ true → end ≡ 2 * index_for w (bound / 65536) (end / 2)
  unfolding index_for
  index_behind last is t = rw (← is, t) (omega (arith, c.records))

  pub index_halved : (last : Bool) → last ≡ below_at w (end / 2) (bound / 65536) (end / 2) → last ≡ false → (a b r : ℕ) → r ≡ 2 * next (b / 2) (2 / 2)
      → b ≡ 2 * next (a / 2) (8 / 2) → a ≡ 2 * next (0 / 2) (32 / 2) → r ≡ 2 * index_for w (bound / 65536) (end / 2)
  unfolding index_for
  index_halved last is f a b r er eb ea =
      let ha : a / 2 ≡ next 0 16 = omega arith in
      let hb : b / 2 ≡ next (a / 2) 4 = omega arith in
      er ∙ rw (hb, ha, ← is, f)

  pub end_even : end % 2 ≡ 0
  end_even = c.records

pub ruleset index_for_laws = (rules, index_behind, index_halved, end_even, doubled_even)

-- records moved up by one: a part of the words written again two words on
module _ (w : List ℕ) (from to : ℕ) (h : from ≤ to) (room : to + 2 ≤ length w) where
  abbrev moved : List ℕ
  moved = part w from (to - from)

  moved_long : length moved ≡ to - from
  moved_long = length_part w from (to - from) (omega arith)

  fits : from + 2 + length moved ≤ length w
  fits = omega (arith, moved_long)

  up : (j : ℕ) → from ≤ j → j < to → get_or (put w (from + 2) moved) (j + 2) 0 ≡ get_or w j 0
  up j a b =
      let e : from + (j - from) ≡ j = omega arith in
      put_inside w (from + 2) moved fits (j + 2) (j - from) (omega arith) (omega (arith, moved_long))
      ∙ get_or-take (to - from) (drop from w) (j - from) 0 (omega arith)
      ∙ (rw e at (get_or-drop from w (j - from) 0))

  pub moved_up : Shifted w from to (put w (from + 2) moved)
  moved_up =
      record {
        size = length_put w (from + 2) moved fits;
        before = λ j b. put_before w (from + 2) moved fits j (omega arith);
        moved = up;
        beyond = λ j b. put_beyond w (from + 2) moved fits j (j - (to + 2)) (omega (arith, moved_long));
      }

-- where there is room for it
pub insert_room : (w : List ℕ) (n end bound p : ℕ) → p ≡ 2 * index_for w (bound / 65536) (end / 2) → end ≡ 2 * n → n ≤ 64 → 6 + 2 * n ≤ length w
    → RoomAt w end p
insert_room w n end bound p at doubled few room =
    record {
      within = omega (arith, at, index_most w (bound / 65536) (end / 2));
      few = omega arith;
      records = omega arith;
      even = doubled_even p _ at;
      room = omega arith;
    }

-- the two ways out of an insertion
module _ (w : List ℕ) (n first second end bound : ℕ) (doubled : end ≡ 2 * n) (least : bound ≡ first / 65536 * 65536 % 18446744073709551616)
    (small : first < 18446744073709551616) where
  pub insert_counted : 6 + 2 * n ≤ length w → Counted w end bound
  insert_counted room = record { there = omega arith; records = omega arith; rank = omega arith }

  pub insert_even : end % 2 ≡ 0
  insert_even = omega arith

  module _ (p : ℕ) (at : p ≡ 2 * index_for w (bound / 65536) (end / 2)) where
    its_rank : bound / 65536 ≡ first / 65536
    its_rank = omega arith

    half : end / 2 ≡ n
    half = omega arith

    index : p / 2 ≡ index_for w (first / 65536) n
    index = let e : p ≡ 2 * index_for w (first / 65536) n = at ∙ rw (its_rank, half) in omega arith

    module _ (rank : ℕ) (er : rank ≡ first / 65536) (m : Bool) (is : m ≡ met_at w (end / 2) rank (p / 2)) where
      pub inserted_not : m ≡ true → false ≡ not (met_in w n (first / 65536))
      unfolding met_in
      inserted_not t = cc (half, index)

      pub inserted_same : m ≡ true → w ≡ inserted_in w n first second
      unfolding met_in inserted_in
      inserted_same t = cc (half, index)

      pub inserted_so : m ≡ false → true ≡ not (met_in w n (first / 65536))
      unfolding met_in
      inserted_so t = cc (half, index)

      pub inserted_put : m ≡ false → (v : List ℕ) → v ≡ put_in w (end / 2) first second (p / 2) → v ≡ inserted_in w n first second
      unfolding met_in inserted_in
      inserted_put t v e = cc (half, index)

pub ruleset insert_laws =
    (rules, insert_counted, insert_even, insert_room, doubled_even, inserted_not, inserted_same, inserted_so, inserted_put)

-- the words moved and the two written
module _ (w : List ℕ) (end first second p : ℕ) (x : RoomAt w end p) where
  moved_is : {v : List ℕ} → v ≡ copy_within w (4 + p) (4 + end) (6 + p) → Shifted w (4 + p) (4 + end) v
  unfolding put
  moved_is is =
      let before : 4 + p ≤ 4 + end = omega (arith, x.within) in
      let room : 4 + end + 2 ≤ length w = omega (arith, x.room) in
      let here : 4 + p + 2 ≡ 6 + p = omega arith in
      rw is (rw (here, moved_long w (4 + p) (4 + end) before room) at (moved_up w (4 + p) (4 + end) before room))

  pub put_words : (v : List ℕ) → v ≡ copy_within w (4 + p) (4 + end) (6 + p) → set (set v (4 + p) first) (5 + p) second ≡ put_in w (end / 2) first second (p / 2)
  put_words v is =
      let ep : 2 * (p / 2) ≡ p = omega (arith, x.even) in
      let ee : 2 * (end / 2) ≡ end = omega (arith, x.records) in
      rw ep at (put_at_is w (end / 2) first second (p / 2) (omega (arith, x.within)) (omega (arith, x.room)) v (rw (ep, ee) (moved_is is)))

pub ruleset put_at_laws = (rules, put_words)
