-- The switches as the code holds them: stores one behind the other in a row of words, and where each starts.
use Rattle.std.specs.Prelude.{ℕ, zero, suc, ◌+◌, ◌*◌, ◌/◌, ◌%◌, ◌≤◌, ◌<◌, ◌≡◌, List, [], ◌∷◌, ◌++◌, Bool, true, length, get_or, take, drop, leb, eqb, if◌then◌else◌, is_some, Option, Some, None, Result, Ok, Err}
use Rattle.rules.specs.Fields.{field, length_good}
use Rattle.rules.specs.Settings.{Settings, nickname_valid, ways_of}
use Rattle.rules.specs.Campus.{Described, known, field_refusal, with_next, refused, accepted, described}
use Rattle.stores.specs.Store.{nickname_in, count_in, hops_from, ways_in, store_good, Stands}
use Rattle.stores.specs.Extend.{opens_in, with_switch, extending, extended}
use Rattle.campus.specs.Places.{described_by}
use Rattle.rules.specs.declared.Refusal.{Refusal}
use Rattle.rules.specs.Answer.{code_of}
use Rattle.campus.specs.declared.refusals.Draft.{Draft}

-- the words of switch i, and of those behind it
abbrev pub store_at : List ℕ → List ℕ → ℕ → List ℕ
store_at w starts i = drop (get_or starts i 0) w

-- what a store says, its records in the order in which they stand
abbrev pub settings_in : List ℕ → Settings
settings_in w =
    record {
      nickname = nickname_in w;
      mac = get_or w 1 0 / 65536;
      strip = eqb (get_or w 2 0 % 2) 1;
      rfc7179 = eqb (get_or w 2 0 / 2 % 2) 1;
      hops = hops_from w 0 (count_in w);
    }

abbrev pub settings_at : List ℕ → List ℕ → ℕ → Settings
settings_at w starts i = settings_in (store_at w starts i)

-- the first n switches, the latest first
unfoldable pub switches_in : List ℕ → List ℕ → ℕ → List Settings
switches_in w starts zero = []
switches_in w starts (suc n) = settings_at w starts n ∷ switches_in w starts n

-- the latest of them that has a nickname
unfoldable pub number_in : List ℕ → List ℕ → ℕ → ℕ → Option ℕ
number_in w starts zero nickname = None
number_in w starts (suc n) nickname = if eqb (get_or w (get_or starts n 0) 0) nickname then Some n else number_in w starts n nickname

abbrev pub known_in : List ℕ → List ℕ → ℕ → ℕ → Bool
known_in w starts n nickname = is_some (number_in w starts n nickname)

-- where the store of the latest of n switches ends
unfoldable pub end_of : List ℕ → List ℕ → ℕ → ℕ
end_of w starts zero = 0
end_of w starts (suc n) = get_or starts n 0 + 4 + 2 * get_or w (get_or starts n 0 + 3) 0

pub record Started (w starts : List ℕ) (n : ℕ) : Type 0 where
  pub long : n ≤ length starts
  pub within : (i : ℕ) → i < n → get_or starts i 0 < length w

-- what one more field needs: starts, and words for a switch or a record behind the last store
pub record Kept (w starts : List ℕ) (n : ℕ) : Type 0 where
  pub sixteen : length starts ≡ 16
  pub few : n ≤ 16
  pub started : Started w starts n
  pub room : end_of w starts n + 6 ≤ length w

-- a store opened or extended within the words
pub record PartOpens (w : List ℕ) (at : ℕ) (v : List ℕ) (r : Bool) (w' : List ℕ) : Type 0 where
  pub answer : r ≡ opens_in (drop at w) v
  pub words : w' ≡ take at w ++ (if opens_in (drop at w) v then with_switch (drop at w) v else drop at w)

pub record PartExtends (w : List ℕ) (at tag : ℕ) (v : List ℕ) (r : ℕ) (w' : List ℕ) : Type 0 where
  pub code : r ≡ extending (drop at w) tag v
  pub words : w' ≡ take at w ++ extended (drop at w) tag v

-- how many words switches take up
unfoldable pub span_of : List Settings → ℕ
span_of [] = 0
span_of (S ∷ switches) = span_of switches + (4 + 2 * length S.hops)

-- the words stand for switches, each store behind those of the switches before it
pub record Store (w starts : List ℕ) (before : List Settings) (S : Settings) : Type 0 where
  pub start : get_or starts (length before) 0 ≡ span_of before
  pub stands : Stands (drop (span_of before) w) S
  pub valid : nickname_valid S.nickname ≡ true

abbrev pub Stores : List ℕ → List ℕ → List Settings → Type 0
Stores w starts [] = Unit {0}
Stores w starts (S ∷ switches) = Store w starts switches S × Stores w starts switches

-- a description as far as it is read, before its entry field
abbrev pub so_far : List Settings → Option (List ℕ) → Described
so_far switches clock = record { switches = switches; clock = clock; entry = None; frame = [] }

-- the tag of a record, a strip flag or an edition, with a good length
pub record OfSettings (tag size : ℕ) : Type 0 where
  pub good : length_good tag size ≡ true
  pub no_switch : tag ≡ 1 → ⊥
  pub no_clock : tag ≡ 4 → ⊥
  pub no_entry : tag ≡ 5 → ⊥

-- one more field: its code by the switches that the words stand for, and the words for these with it
pub record Took (w starts : List ℕ) (n : ℕ) (clock : Option ℕ) (tag : ℕ) (v : List ℕ) (code : ℕ) (w' starts' : List ℕ) : Type 0 where
  pub size : length w' ≡ length w
  pub starts_size : length starts' ≡ length starts
  pub checked : (switches : List Settings) (c : Option (List ℕ)) → Stores w starts switches → length switches ≡ n → known c ≡ is_some clock
      → code ≡ field_refusal (so_far switches c) (field tag v)
  pub stored : (switches : List Settings) (c : Option (List ℕ)) → Stores w starts switches → length switches ≡ n → code ≡ 0
      → Stores w' starts' (with_next (so_far switches c) (field tag v)).switches

-- the same, of a description as far as it is read
abbrev pub HasRoom : Draft → Type 0
HasRoom d = Kept d.words.now d.starts d.count

pub record Takes (d : Draft) (tag : ℕ) (v : List ℕ) (code : ℕ) (d' : Draft) : Type 0 where
  pub took : Took d.words.now d.starts d.count d.clock tag v code d'.words.now d'.starts
  pub count : d'.count ≡ d.count
  pub clock : d'.clock ≡ d.clock

-- words enough for a description: a field takes up at most 4 words for 11 octets, and 16 switches 2,112
abbrev pub words_for : ℕ → ℕ
words_for octets = if leb octets 5808 then 4 * octets / 11 + 6 else 2118

pub record Accepts (s w starts : List ℕ) (n : ℕ) (clock : Option ℕ) (place : ℕ) : Type 0 where
  pub switches : List Settings
  pub is : described s ≡ accepted (described_by s switches clock place)
  pub stores : Stores w starts switches
  pub count : length switches ≡ n
  pub few : n ≤ length starts
  pub span : span_of switches ≤ length w
  pub entry_in : place + 3 ≤ length s

abbrev pub ReadDone : List ℕ → Draft → Result ℕ Refusal → Type 0
ReadDone s d (Err r) = refused (code_of r) ≡ described s
ReadDone s d (Ok entry) = Accepts s d.words.now d.starts d.count d.clock entry

-- a switch whose store is good, and handles a frame as its settings do
pub record SoundAt (w starts : List ℕ) (i : ℕ) : Type 0 where
  pub listed : i < length starts
  pub start : get_or starts i 0 < length w
  pub good : store_good (store_at w starts i) ≡ true
  pub says : ways_in (store_at w starts i) ≡ ways_of (settings_at w starts i)

pub record Sound (w starts : List ℕ) (n : ℕ) : Type 0 where
  pub started : Started w starts n
  pub each : (i : ℕ) → i < n → SoundAt w starts i
