-- A prepared store: the settings of one switch in words. What any words at all mean: `store_good`, and of good ones `ways_in`.
use Rattle.std.specs.Prelude.{ℕ, zero, suc, ◌+◌, ◌*◌, ◌/◌, ◌%◌, ◌^◌, ◌≤◌, ◌<◌, ◌≡◌, List, [], ◌∷◌, Bool, true, false, not, ◌&&◌, length, get_or, drop, ltb, leb, eqb, if◌then◌else◌, Option, Some, None}
use Rattle.rules.specs.Fields.{fields_at}
use Rattle.rules.specs.Settings as S
use Rattle.rules.specs.Handling.{handled_with, handled}
use Rattle.rules.specs.Answer as A
use Rattle.rules.specs.WayOut.{WayOut, no_way, way_out_by}
use Rattle.rules.specs.declared.NextHop.{NextHop}
use Rattle.stores.specs.Halving.{halved}

-- a store as `trill_prepare` asks for it: 4 words of the switch, 64 records of two words, 32 words of hints
abbrev pub store_words : ℕ
store_words = 164

abbrev pub nickname_in : List ℕ → ℕ
nickname_in w = get_or w 0 0

abbrev pub count_in : List ℕ → ℕ
count_in w = get_or w 3 0

-- the i-th record: a first of destination 16 bits, serial 32 and VLAN 16, and a second of MAC 48 bits and neighbour 16
abbrev pub first_at : List ℕ → ℕ → ℕ
first_at w i = get_or w (4 + 2 * i) 0

abbrev pub second_at : List ℕ → ℕ → ℕ
second_at w i = get_or w (5 + 2 * i) 0

-- destination above serial, by which records are in order
abbrev pub rank_at : List ℕ → ℕ → ℕ
rank_at w i = first_at w i / 65536

abbrev pub dest_of : ℕ → ℕ
dest_of first = first / 281474976710656

abbrev pub dest_at : List ℕ → ℕ → ℕ
dest_at w i = dest_of (first_at w i)

abbrev pub hop_of : ℕ → ℕ → NextHop
hop_of first second =
    record { destination = dest_of first; neighbour = second % 65536; mac = second / 65536; serial = first / 65536 % 4294967296; vlan = first % 65536 }

unfoldable pub hop_at : List ℕ → ℕ → NextHop
hop_at w i = hop_of (first_at w i) (second_at w i)

-- "if it is a withdrawal, there is no next hop"
unfoldable pub unless_withdrawn : Option NextHop → Option NextHop
unless_withdrawn None = None
unless_withdrawn (Some r) = if eqb r.neighbour 0 then None else Some r

-- a search among n records: one step takes the upper half if it does not begin above d
unfoldable pub up_to : List ℕ → ℕ → ℕ → ℕ → Bool
up_to w n d i = ltb i n && leb (dest_at w i) d

unfoldable pub stepped : List ℕ → ℕ → ℕ → ℕ → ℕ → ℕ
stepped w n d = halved (up_to w n d)

abbrev pub searched : List ℕ → ℕ → ℕ → ℕ
searched w n d = stepped w n d (stepped w n d (stepped w n d (stepped w n d (stepped w n d (stepped w n d 0 32) 16) 8) 4) 2) 1

-- whether a record is the last of its destination
unfoldable pub last_at : List ℕ → ℕ → ℕ → ℕ → Bool
last_at w n d i = ltb i n && (eqb (dest_at w i) d && not (ltb (i + 1) n && eqb (dest_at w (i + 1)) d))

-- one of 256 hints, eight to a word: which record to try first; a short store has none
unfoldable pub hint_at : List ℕ → ℕ → ℕ
hint_at w d = if leb store_words (length w) then get_or w (132 + d % 256 / 8) 0 / 2 ^ (d % 8 * 8) % 64 else 0

-- a hint is taken only if the record there is its destination's last
unfoldable pub index_in : List ℕ → ℕ → ℕ → ℕ
index_in w n d = if last_at w n d (hint_at w d) then hint_at w d else searched w n d

-- the record at an index if it is for d and no withdrawal
unfoldable pub hop_for : List ℕ → ℕ → ℕ → ℕ → Option NextHop
hop_for w n d i = if ltb i n && (eqb (dest_at w i) d && not (eqb (second_at w i % 65536) 0)) then Some (hop_at w i) else None

-- word 0 own nickname, word 1 own MAC above 16 bits unused here, word 2 strip flag and above it the edition, word 3 number of records
abbrev pub ways_in : List ℕ → S.Ways
ways_in w =
    record {
      nickname = nickname_in w;
      mac = get_or w 1 0 / 65536;
      strip = eqb (get_or w 2 0 % 2) 1;
      rfc7179 = eqb (get_or w 2 0 / 2 % 2) 1;
      hop = λ d. hop_for w (count_in w) d (index_in w (count_in w) d);
    }

-- a valid nickname, and no more records than 64 and than there are words for
unfoldable pub store_good : List ℕ → Bool
store_good w = leb 4 (length w) && (S.nickname_valid (nickname_in w) && (leb (count_in w) S.hops_most && leb (4 + 2 * count_in w) (length w)))

-- the handling by a store: a bad one is bad settings
unfoldable pub handled_in : List ℕ → List ℕ → ℕ → ℕ → List ℕ → A.Handled
handled_in w clock room beside_room f = if store_good w then handled_with (ways_in w) clock room beside_room f else A.dropped 1

-- what a good store is known to have
pub record Whole (w : List ℕ) : Type 0 where
  pub named : nickname_in w < 65536
  pub few : count_in w ≤ 64
  pub long : 4 + 2 * count_in w ≤ length w

-- k records from the i-th on
unfoldable pub hops_from : List ℕ → ℕ → ℕ → List NextHop
hops_from w i zero = []
hops_from w i (suc k) = hop_at w i ∷ hops_from w (suc i) k

-- n records in order
pub record Ordered (w : List ℕ) (n : ℕ) : Type 0 where
  pub few : n ≤ 64
  pub rises : (i j : ℕ) → i < j → j < n → rank_at w i < rank_at w j

-- n records stand for settings' records: as many, the same ruling for each destination, the same serials met
pub record StandsFor (w : List ℕ) (n : ℕ) (hops : List NextHop) : Type 0 where
  pub ordered : Ordered w n
  pub count : length hops ≡ n
  pub same_ruling : (d : ℕ) → S.ruling hops d ≡ S.ruling (hops_from w 0 n) d
  pub same_met : (x : NextHop) → S.serial_met x hops ≡ S.serial_met x (hops_from w 0 n)

-- a store of which the words stand for settings
pub record Stands (w : List ℕ) (T : S.Settings) : Type 0 where
  pub nickname : nickname_in w ≡ T.nickname
  pub mac : get_or w 1 0 / 65536 ≡ T.mac
  pub strip : eqb (get_or w 2 0 % 2) 1 ≡ T.strip
  pub rfc7179 : eqb (get_or w 2 0 / 2 % 2) 1 ≡ T.rfc7179
  pub records : StandsFor w (count_in w) T.hops

-- room for every record
pub record Roomy (w : List ℕ) : Type 0 where
  pub size : length w ≡ 164
  pub most : count_in w ≤ 64

-- the words once settings octets were read whole, if they are good
abbrev pub Filled : List ℕ → Option S.Settings → Bool → Type 0
Filled w None r = r ≡ false
Filled w (Some T) r = (r ≡ true) × Stands w T

-- the fields from a place on
pub record Fills (s : List ℕ) (from : ℕ) (w : List ℕ) (r : Bool) (v : List ℕ) : Type 0 where
  pub filled : (T : S.Settings) → Stands w T → Filled v (S.settings_from T (fields_at s from)) r
  pub roomy : r ≡ true → Roomy v

-- other hints: no word before them moves
pub record Hinted (w v : List ℕ) : Type 0 where
  pub size : length v ≡ length w
  pub before : (j : ℕ) → j < 132 → get_or v j 0 ≡ get_or w j 0

-- what preparing answers: 1 for bad settings, 2 for too few words, else 0
unfoldable pub preparing : List ℕ → ℕ → ℕ
preparing settings words = elim (S.settings_of settings) [ None ↦ 1 | Some T ↦ if ltb words store_words then 2 else 0 ]

-- and what it leaves. A refusal leaves the words as they were. Else the first 164 words are free but for what they mean: the store is good, says
-- what the settings say, and so handles every frame as the settings octets do; the words behind them stay.
pub record Prepared (settings store store' : List ℕ) (r : ℕ) : Type 0 where
  pub answered : r ≡ preparing settings (length store)
  pub refused : (r ≡ 0 → ⊥) → store' ≡ store
  pub says : (T : S.Settings) → r ≡ 0 → S.settings_of settings ≡ Some T → (store_good store' ≡ true) × (ways_in store' ≡ S.ways_of T)
  pub handles : r ≡ 0 → (clock : List ℕ) (room beside_room : ℕ) (f : List ℕ)
      → handled_in store' clock room beside_room f ≡ handled settings clock room beside_room f
  pub beyond : drop store_words store' ≡ drop store_words store

-- the way out by a store
unfoldable pub way_out_in : List ℕ → ℕ → ℕ → WayOut
way_out_in w destination room = if store_good w then way_out_by (ways_in w) destination room else no_way 1
