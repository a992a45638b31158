-- One more record among those of a store.
use Rattle.std.specs.Prelude.{ℕ, suc, ◌+◌, ◌-◌, ◌*◌, ◌/◌, ◌%◌, ◌≤◌, ◌<◌, ◌≡◌, List, ◌∷◌, Bool, ◌&&◌, ltb, leb, eqb, length, get_or, if◌then◌else◌}
use Rattle.rules.specs.Octets.{part, put}
use Rattle.rules.specs.declared.NextHop.{NextHop}
use Rattle.stores.specs.Halving.{six_times}
use Rattle.stores.specs.Store.{rank_at}

-- the two words of a record
abbrev pub first_word : NextHop → ℕ
first_word r = r.destination * 281474976710656 + r.serial * 65536 + r.vlan

abbrev pub second_word : NextHop → ℕ
second_word r = r.mac * 65536 + r.neighbour

-- whether there are i records or more and the i-th, counted from 1, is below the rank; of i = 0 it is of no account
unfoldable pub below_at : List ℕ → ℕ → ℕ → ℕ → Bool
below_at w n rank i = leb i n && ltb (get_or w (2 + 2 * i) 0 / 65536) rank

-- the index for a rank among n records: behind all of them, or else by halving
unfoldable pub index_for : List ℕ → ℕ → ℕ → ℕ
index_for w rank n = if below_at w n rank n then n else six_times (below_at w n rank)

-- whether the record at an index has the rank
unfoldable pub met_at : List ℕ → ℕ → ℕ → ℕ → Bool
met_at w n rank p = ltb p n && eqb (rank_at w p) rank

-- whether the record at the index for the rank has it
unfoldable pub met_in : List ℕ → ℕ → ℕ → Bool
met_in w n rank = met_at w n rank (index_for w rank n)

-- the words with a record put in at index p of n: those from there on move up by two
unfoldable pub put_in : List ℕ → ℕ → ℕ → ℕ → ℕ → List ℕ
put_in w n first second p = put w (4 + 2 * p) (first ∷ second ∷ part w (4 + 2 * p) (2 * (n - p)))

-- in its order, unless its rank was met
unfoldable pub inserted_in : List ℕ → ℕ → ℕ → ℕ → List ℕ
inserted_in w n first second = if met_in w n (first / 65536) then w else put_in w n first second (index_for w (first / 65536) n)

-- n records counted by their words, two each, and a rank as the least word that has it
pub record Counted (w : List ℕ) (end bound : ℕ) : Type 0 where
  pub there : 4 + end ≤ length w
  pub records : end % 2 ≡ 0
  pub rank : bound % 65536 ≡ 0

-- room for one record more, at p of these words
pub record RoomAt (w : List ℕ) (end p : ℕ) : Type 0 where
  pub within : p ≤ end
  pub few : end ≤ 128
  pub records : end % 2 ≡ 0
  pub even : p % 2 ≡ 0
  pub room : 6 + end ≤ length w

-- p: how many of the first n records are below the rank, if they are in order
pub record IndexFor (w : List ℕ) (n rank p : ℕ) : Type 0 where
  pub within : p ≤ n
  pub above : (j : ℕ) → p ≤ j → j < n → rank ≤ rank_at w j
  pub below : (j : ℕ) → suc j ≡ p → rank_at w j < rank

-- v: w with the words from `from` up to `to` two up; the two at `from` are free
pub record Shifted (w : List ℕ) (from to : ℕ) (v : List ℕ) : Type 0 where
  pub size : length v ≡ length w
  pub before : (j : ℕ) → j < from → get_or v j 0 ≡ get_or w j 0
  pub moved : (j : ℕ) → from ≤ j → j < to → get_or v (j + 2) 0 ≡ get_or w j 0
  pub beyond : (j : ℕ) → to + 2 ≤ j → get_or v j 0 ≡ get_or w j 0

-- v: w with two words put in at index p of the first n records
pub record PutIn (w : List ℕ) (n first second p : ℕ) (v : List ℕ) : Type 0 where
  pub shifted : Shifted w (4 + 2 * p) (4 + 2 * n) v
  pub here_first : get_or v (4 + 2 * p) 0 ≡ first
  pub here_second : get_or v (5 + 2 * p) 0 ≡ second

-- in their order, where no record has the rank
pub record With (w : List ℕ) (n first second p : ℕ) (v : List ℕ) : Type 0 where
  pub index : IndexFor w n (first / 65536) p
  pub fresh : p < n → first / 65536 < rank_at w p
  pub put : PutIn w n first second p v
