-- "Settings": the settings of one switch, the record that rules for a destination, and the octets that the C driver gives.
use Rattle.std.specs.Prelude.{ℕ, ◌/◌, ◌%◌, Bool, true, false, not, ◌&&◌, ◌||◌, length, ltb, leb, eqb, if◌then◌else◌, Option, Some, None}
use mathlib.Core.List.{List, [], ◌∷◌, ◌++◌, foldl}
use Rattle.rules.specs.Octets.{octet, be16, be32, be48}
use Rattle.rules.specs.Fields.{Field, field, cut, fields, length_good}
use Rattle.rules.specs.declared.NextHop.{NextHop}

pub record Settings : Type 0 where
  pub nickname : ℕ
  pub mac : ℕ
  pub strip : Bool
  -- T-09: edition 2, RFC 7179 in place of the 2010 draft
  pub rfc7179 : Bool
  pub hops : List NextHop

-- "valid, that is 0x0001 to 0xFFBF"
abbrev pub nickname_valid : ℕ → Bool
nickname_valid n = leb 0x0001 n && leb n 0xFFBF

-- "individual and not all zero"; individual: the low bit of the first octet is 0
abbrev pub mac_good : ℕ → Bool
mac_good mac = eqb (mac / 0x10000000000 % 2) 0 && not (eqb mac 0)

-- "Destinations are valid nicknames, neighbour MACs individual and not zero, in a withdrawal too;
-- a neighbour nickname of 0 means withdrawn, else it is valid." T-01: "an outer VLAN, 0 for none or 1 to 4,094"
unfoldable pub hop_good : NextHop → Bool
hop_good r =
    nickname_valid r.destination
    && mac_good r.mac
    && (eqb r.neighbour 0 || nickname_valid r.neighbour)
    && leb r.vlan 4094

-- "For one destination the record with the greatest serial rules": the one that rules once `r` is seen too.
-- Of equal serials, which good settings never have, the first stays.
unfoldable pub newer : ℕ → Option NextHop → NextHop → Option NextHop
newer d best r =
    if not (eqb r.destination d) then best else
    elim best [
      | None ↦ Some r
      | Some q ↦ if ltb q.serial r.serial then Some r else Some q
    ]

unfoldable pub ruling : List NextHop → ℕ → Option NextHop
ruling hops d = foldl (newer d) None hops

-- "if it is a withdrawal, there is no next hop"
unfoldable pub next_hop : Settings → ℕ → Option NextHop
next_hop S d =
    elim (ruling S.hops d) [
      | None ↦ None
      | Some r ↦ if eqb r.neighbour 0 then None else Some r
    ]

-- "Two records of one destination with equal serials make the settings bad."
unfoldable pub serial_met : NextHop → List NextHop → Bool
serial_met r [] = false
serial_met r (q ∷ hops) = (eqb q.destination r.destination && eqb q.serial r.serial) || serial_met r hops

-- "switch (nickname, MAC)"
abbrev pub switch_of : List ℕ → Settings
switch_of v = record { nickname = be16 v 0; mac = be48 v 2; strip = false; rfc7179 = false; hops = [] }

-- "next hop .. (destination, neighbour, MAC, serial)"; T-01: "length 14 (VLAN 0) or 16 (VLAN last)", and a place past the end reads 0
abbrev pub hop_of : List ℕ → NextHop
hop_of v = record { destination = be16 v 0; neighbour = be16 v 2; mac = be48 v 4; serial = be32 v 10; vlan = be16 v 14 }

unfoldable pub switch_good : Settings → Bool
switch_good S = nickname_valid S.nickname && mac_good S.mac

-- "strip flag, 0 or 1"
abbrev pub strip_good : List ℕ → Bool
strip_good v = leb (octet v 0) 1

-- "Up to 64 next-hop records"
abbrev pub hops_most : ℕ
hops_most = 64

-- T-09: "Settings choose the edition by tag 6, length 1, value 1 or 2"
abbrev pub edition_good : List ℕ → Bool
edition_good v = eqb (octet v 0) 1 || eqb (octet v 0) 2

abbrev pub with_hop : Settings → NextHop → Settings
with_hop S r = record { nickname = S.nickname; mac = S.mac; strip = S.strip; rfc7179 = S.rfc7179; hops = S.hops ++ (r ∷ []) }

abbrev pub with_strip : Settings → Bool → Settings
with_strip S b = record { nickname = S.nickname; mac = S.mac; strip = b; rfc7179 = S.rfc7179; hops = S.hops }

abbrev pub with_edition : Settings → Bool → Settings
with_edition S b = record { nickname = S.nickname; mac = S.mac; strip = S.strip; rfc7179 = b; hops = S.hops }

-- the settings once one more field is read; "last one counts" for the strip flag; T-09: "default 1, placed and counted as tag 3"
unfoldable pub with_field : Settings → Field → Settings
with_field S cut = S
with_field S (field tag v) =
    if eqb tag 2 then with_hop S (hop_of v) else
    if eqb tag 3 then with_strip S (not (eqb (octet v 0) 0)) else
    if eqb tag 6 then with_edition S (eqb (octet v 0) 2)
    else S

-- "one tag 1 field, then tag 2 and 3 fields of the layout below; anything else is bad settings"; T-09: tag 6 too
unfoldable pub opens : Field → Bool
opens cut = false
opens (field tag v) = eqb tag 1 && length_good tag (length v) && switch_good (switch_of v)

unfoldable pub continues : Settings → Field → Bool
continues S cut = false
continues S (field tag v) =
    length_good tag (length v) &&
    (if eqb tag 2 then hop_good (hop_of v) && ltb (length S.hops) hops_most && not (serial_met (hop_of v) S.hops) else
    if eqb tag 3 then strip_good v else
    if eqb tag 6 then edition_good v
    else false)

-- the switch that a field opens, its nickname and MAC 0 where the field is cut
unfoldable pub opened : Field → Settings
opened cut = switch_of []
opened (field tag v) = switch_of v

unfoldable pub settings_from : Settings → List Field → Option Settings
settings_from S [] = Some S
settings_from S (f ∷ fs) = elim (continues S f) [ true ↦ settings_from (with_field S f) fs | false ↦ None ]

-- settings octets to settings, or bad
unfoldable pub settings_of : List ℕ → Option Settings
settings_of octets =
    elim (fields octets) [
      | [] ↦ None
      | f ∷ fs ↦ elim (opens f) [ true ↦ settings_from (opened f) fs | false ↦ None ]
    ]

-- what the fields say, without a judgement: of settings that are not bad, the settings
unfoldable pub settings_read : List ℕ → Settings
settings_read octets = elim (fields octets) [ [] ↦ switch_of [] | f ∷ fs ↦ foldl with_field (opened f) fs ]

-- what a handling asks of settings: our nickname and MAC, the strip flag, the edition, and the next hop for a destination
pub record Ways : Type 0 where
  pub nickname : ℕ
  pub mac : ℕ
  pub strip : Bool
  pub rfc7179 : Bool
  pub hop : ℕ → Option NextHop

abbrev pub ways_of : Settings → Ways
ways_of S = record { nickname = S.nickname; mac = S.mac; strip = S.strip; rfc7179 = S.rfc7179; hop = next_hop S }
