-- A store made field by field, from any words: opened for a switch, and extended by a record, a strip flag or an edition.
use Rattle.std.specs.Prelude.{ℕ, ◌+◌, ◌*◌, ◌/◌, ◌%◌, ◌≡◌, List, [], ◌∷◌, Bool, not, ◌&&◌, ltb, leb, eqb, length, get_or, set, if◌then◌else◌, Option, Some, None}
use Rattle.rules.specs.Octets.{octet, put}
use Rattle.rules.specs.Fields.{field, length_good}
use Rattle.rules.specs.Settings as S
use Rattle.rules.specs.Link.{ethertype_trill}
use Rattle.rules.specs.declared.NextHop.{NextHop}
use Rattle.octets.specs.Flags.{flag_tag, flag_value}
use Rattle.stores.specs.Store.{count_in}
use Rattle.stores.specs.Insert.{first_word, second_word, met_in, inserted_in}

-- the words of a switch without records and with no flag
abbrev pub switch_words : S.Settings → List ℕ
switch_words T = T.nickname ∷ (T.mac * 65536 + ethertype_trill) ∷ 0 ∷ 0 ∷ []

abbrev pub with_switch : List ℕ → List ℕ → List ℕ
with_switch w v = put w 0 (switch_words (S.switch_of v))

-- a store is opened by the value of a good switch, where there are words for it
unfoldable pub opens_in : List ℕ → List ℕ → Bool
opens_in w v = leb 4 (length w) && S.opens (field 1 v)

pub record Opens (w v : List ℕ) (r : Bool) (w' : List ℕ) : Type 0 where
  pub answer : r ≡ opens_in w v
  pub words : w' ≡ (if opens_in w v then with_switch w v else w)

-- room for one more record: fewer than 64, and two words left
unfoldable pub room_in : List ℕ → Bool
room_in w = leb 4 (length w) && (ltb (count_in w) S.hops_most && leb (6 + 2 * count_in w) (length w))

-- the number of records, if there is room for one more
unfoldable pub count_by : List ℕ → Option ℕ
count_by w = if room_in w then Some (count_in w) else None

-- whether a record of its destination has its serial
abbrev pub met_by : List ℕ → NextHop → Bool
met_by w r = met_in w (count_in w) (first_word r / 65536)

-- 0, or the code of a description that refuses the field: 42 its length, 44 its value, 46 no room, 47 serial met, 43 no field of settings
unfoldable pub record_code : List ℕ → List ℕ → ℕ
record_code w v =
    if not (length_good 2 (length v)) then 42 else
    if not (S.hop_good (S.hop_of v)) then 44 else
    if not (room_in w) then 46 else
    if met_by w (S.hop_of v) then 47
    else 0

unfoldable pub flag_code : List ℕ → ℕ → List ℕ → ℕ
flag_code w tag v =
    if not (flag_tag tag) then 43 else
    if not (eqb (length v) 1) then 42 else
    if not (flag_value tag v) then 44 else
    if ltb (length w) 4 then 46
    else 0

unfoldable pub extending : List ℕ → ℕ → List ℕ → ℕ
extending w tag v = if eqb tag 2 then record_code w v else flag_code w tag v

-- the words with one more record, and with the flag
abbrev pub with_record : List ℕ → NextHop → List ℕ
with_record w r = set (inserted_in w (count_in w) (first_word r) (second_word r)) 3 (count_in w + 1)

abbrev pub added_to : List ℕ → NextHop → List ℕ
added_to w r = if met_by w r then w else with_record w r

-- the strip flag, and above it the edition less 1
abbrev pub flag_word : ℕ → ℕ → ℕ → ℕ
flag_word x tag o = if eqb tag 3 then x / 2 % 2 * 2 + o else (if eqb o 2 then 2 else 0) + x % 2

abbrev pub with_flag : List ℕ → ℕ → List ℕ → List ℕ
with_flag w tag v = set w 2 (flag_word (get_or w 2 0) tag (octet v 0))

-- a flag that is refused leaves the words as they were
pub record FlagIn (w : List ℕ) (tag : ℕ) (v : List ℕ) (r : ℕ) (w' : List ℕ) : Type 0 where
  pub code : r ≡ flag_code w tag v
  pub words : w' ≡ (if eqb (flag_code w tag v) 0 then with_flag w tag v else w)

-- a field that is refused leaves the words as they were
unfoldable pub extended : List ℕ → ℕ → List ℕ → List ℕ
extended w tag v = if not (eqb (extending w tag v) 0) then w else if eqb tag 2 then with_record w (S.hop_of v) else with_flag w tag v

pub record Extends (w : List ℕ) (tag : ℕ) (v : List ℕ) (r : ℕ) (w' : List ℕ) : Type 0 where
  pub code : r ≡ extending w tag v
  pub words : w' ≡ extended w tag v
