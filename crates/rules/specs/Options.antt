-- "Options area (source document 001)", edition 1: one option, all of them, well formed, and what is left of an area once stripped.
use Rattle.std.specs.Prelude.{ℕ, zero, suc, ◌+◌, ◌-◌, ◌*◌, ◌/◌, ◌%◌, ◌<◌, ◌≤◌, ◌≡◌, List, [], ◌∷◌, ◌++◌, Bool, true, false, not, ◌&&◌, ◌||◌, length, take, drop, ltb, leb, eqb, if◌then◌else◌}
use Rattle.rules.specs.Octets.{octet, be16, part}
use Rattle.rules.specs.declared.Number.{Number}
use Rattle.rules.specs.declared.Number.TheVariants.{ReservedLength, OptionCut, KeyBelow, KeyEqual, ChbhMissing, CiteMissing}

-- "First word: bit 0 CHbH, bit 1 CItE, 30 bit options." An empty area has both summary bits 0.
abbrev pub chbh : List ℕ → Bool
chbh area = eqb (octet area 0 / 128 % 2) 1

abbrev pub cite : List ℕ → Bool
cite area = eqb (octet area 0 / 64 % 2) 1

-- "Each TLV option starts with IE 1, NC 1, Type 6, MT 1, Length 7". The key is its nine high bits.
abbrev pub key_of : ℕ → ℕ
key_of w = w / 128 % 512

abbrev pub length_of : ℕ → ℕ
length_of w = w % 128

abbrev pub ie : ℕ → ℕ
ie key = key / 256 % 2

abbrev pub nc : ℕ → ℕ
nc key = key / 128 % 2

abbrev pub type_of : ℕ → ℕ
type_of key = key / 2 % 64

abbrev pub mt : ℕ → ℕ
mt key = key % 2

-- "that many data octets follow, padded at the end to a multiple of four": the two leading octets are counted too
abbrev pub option_size : ℕ → ℕ
option_size size = (2 + size + 3) / 4 * 4

-- One option: its key, its Length and the place after it, or the answer number of what is wrong with it, and its place.
pub data OptionRead : Type 0 where
  Taken : ℕ → ℕ → ℕ → OptionRead
  Fault : Number → ℕ → OptionRead

-- T-02: "30 reserved Length, 31 option past the area, 32 key below the one before, 33 key equal to it", "the tests of one option in
-- the order 30 to 33". `floor` is one more than the key of the option before, and 0 at the first:
-- "the nine high bits of each option are greater than those of the one before".
unfoldable pub option_at : List ℕ → ℕ → ℕ → OptionRead
option_at area floor at =
    if leb 119 (length_of (be16 area at)) then Fault ReservedLength at else
    if ltb (length area) (at + option_size (length_of (be16 area at))) then Fault OptionCut at else
    if ltb (key_of (be16 area at) + 1) floor then Fault KeyBelow at else
    if eqb (key_of (be16 area at) + 1) floor then Fault KeyEqual at
    else Taken (key_of (be16 area at)) (length_of (be16 area at)) (at + option_size (length_of (be16 area at)))

-- an option as it stands in the area: key, Length, and all its octets, padding included
pub record TlvOption : Type 0 where
  pub key : ℕ
  pub size : ℕ
  pub octets : List ℕ

unfoldable pub octets_of : List TlvOption → List ℕ
octets_of [] = []
octets_of (o ∷ os) = o.octets ++ octets_of os

-- all options, or the first fault: "Options are judged from the first on"
pub data Options : Type 0 where
  options : List TlvOption → Options
  fault : Number → ℕ → Options

abbrev pub option_first : TlvOption → Options → Options
option_first o (options os) = options (o ∷ os)
option_first o (fault number place) = fault number place

-- the options from a place on: "the options fill it exactly"
unfoldable pub options_from : ℕ → List ℕ → ℕ → ℕ → Options
options_from zero area floor at = options []
options_from (suc fuel) area floor at =
    elim (ltb at (length area)) [
      | false ↦ options []
      | true ↦
          elim (option_at area floor at) [
            | Taken key size next ↦ option_first (record { key = key; size = size; octets = part area at (next - at) }) (options_from fuel area (key + 1) next)
            | Fault number place ↦ fault number place
          ]
    ]

-- the TLV options begin after the first word; each takes four octets or more, so the fuel is never used up
unfoldable pub options_of : List ℕ → Options
options_of area = options_from (suc (length area)) area 0 4

-- "IE 0, NC 0" and "IE 1, NC 0": the critical options
abbrev pub hop_by_hop_critical : ℕ → Bool
hop_by_hop_critical key = eqb (ie key) 0 && eqb (nc key) 0

abbrev pub ingress_to_egress_critical : ℕ → Bool
ingress_to_egress_critical key = eqb (ie key) 1 && eqb (nc key) 0

unfoldable pub some_key : (ℕ → Bool) → List TlvOption → Bool
some_key test [] = false
some_key test (o ∷ os) = test o.key || some_key test os

-- a well formed area, or the answer number of what is wrong with it, and the place
pub data AreaRead : Type 0 where
  WellFormed : AreaRead
  Faulty : Number → ℕ → AreaRead

-- "CHbH is 1 if some option has IE 0, NC 0; CItE is 1 if some option has IE 1, NC 0." Too many summary bits are allowed.
-- T-02: "then 34, then 35", after all options: "34 CHbH missing, 35 CItE missing", at "0 for 34 and 35".
unfoldable pub summarized : List ℕ → Options → AreaRead
summarized area (fault number place) = Faulty number place
summarized area (options os) =
    if some_key hop_by_hop_critical os && not (chbh area) then Faulty ChbhMissing 0 else
    if some_key ingress_to_egress_critical os && not (cite area) then Faulty CiteMissing 0
    else WellFormed

unfoldable pub draft_read : List ℕ → AreaRead
draft_read area = summarized area (options_of area)

-- Document 01's own sentence, with no order of tests: "The area is well formed when the options fill it exactly; no Length is
-- reserved; the nine high bits of each option are greater than those of the one before; CHbH is 1 if some option has IE 0, NC 0;
-- CItE is 1 if some option has IE 1, NC 0." `Laid floor os`: options with keys from `floor` on, rising.
pub data Laid : ℕ → List TlvOption → Type 0 where
  none : {floor : ℕ} → Laid floor []
  one : {floor : ℕ} {o : TlvOption} {os : List TlvOption} → key_of (be16 o.octets 0) ≡ o.key → length_of (be16 o.octets 0) ≡ o.size
      → o.size < 119 → length o.octets ≡ option_size o.size → floor ≤ o.key → Laid (o.key + 1) os → Laid floor (o ∷ os)

pub record WellFormedArea (area : List ℕ) : Type 0 where
  pub its : List TlvOption
  pub fill : drop 4 area ≡ octets_of its
  pub laid : Laid 0 its
  pub hop_by_hop : some_key hop_by_hop_critical its ≡ true → chbh area ≡ true
  pub ingress_to_egress : some_key ingress_to_egress_critical its ≡ true → cite area ≡ true

-- "Implemented: Flow ID, which is Type 0x01 with IE 0, NC 1, MT 1; and pad, Type 0x20 with NC 1."
-- T-03: "source document 001 fixes the length at 2", that of a Flow ID; a pad is of any Length.
unfoldable pub implemented : ℕ → ℕ → Bool
implemented key size =
    (eqb (type_of key) 0x01 && eqb (ie key) 0 && eqb (nc key) 1 && eqb (mt key) 1 && eqb size 2)
    || (eqb (type_of key) 0x20 && eqb (nc key) 1)

-- "loses each option that has IE 0, NC 1, MT 1 and isn't implemented"
unfoldable pub strippable : ℕ → ℕ → Bool
strippable key size = eqb (ie key) 0 && eqb (nc key) 1 && eqb (mt key) 1 && not (implemented key size)

unfoldable pub kept_options : List TlvOption → List TlvOption
kept_options [] = []
kept_options (o ∷ os) = if strippable o.key o.size then kept_options os else o ∷ kept_options os

-- "the others keep order and octets, padding included .. The first word always stays." Of an area that is not well formed,
-- which is never forwarded, nothing is stripped.
unfoldable pub stripped : List ℕ → List ℕ
stripped area = elim (options_of area) [ options os ↦ take 4 area ++ octets_of (kept_options os) | fault number place ↦ area ]

-- 20: "CHbH is 1, or CItE is 1 and we are the egress"
unfoldable pub draft_stops : Bool → List ℕ → Bool
draft_stops egress area = chbh area || (cite area && egress)
