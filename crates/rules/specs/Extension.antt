-- T-09: "In edition 2 the first word is the extended flags word with its three critical summary bits and both channel alert flags"
-- (RFC 7179, 2), and then an options area by the edition that the settings choose.
use Rattle.std.specs.Prelude.{ℕ, ◌/◌, ◌%◌, List, Bool, not, ◌&&◌, ◌||◌, length, eqb, if◌then◌else◌}
use Rattle.rules.specs.Octets.{be32}
use Rattle.rules.specs.Settings.{Ways}
use Rattle.rules.specs.declared.Number.TheVariants.{BadFlags}
use Rattle.rules.specs.Options.{AreaRead, WellFormed, Faulty, draft_read, draft_stops, stripped}

-- the extended flags word; an empty area has no flag
abbrev pub flags_word : List ℕ → ℕ
flags_word area = be32 area 0

-- of bits `from` to `to` of the word, bit 0 the highest, some is set: `shift` is 2 ^ (31 - to), `span` 2 ^ (to - from + 1)
abbrev pub some_bit : ℕ → ℕ → ℕ → Bool
some_bit w shift span = not (eqb (w / shift % span) 0)

-- bits 0 to 2: CRHbH, CRItE, CRRsv
abbrev pub cr_hbh : ℕ → Bool
cr_hbh w = some_bit w 0x80000000 2

abbrev pub cr_ite : ℕ → Bool
cr_ite w = some_bit w 0x40000000 2

abbrev pub cr_rsv : ℕ → Bool
cr_rsv w = some_bit w 0x20000000 2

-- the critical flags of each kind: bits 3 to 7 hop-by-hop, of which 7 is the critical channel alert; 21 to 26 ingress-to-egress; 14 to
-- 16 reserved
abbrev pub hop_by_hop_flag : ℕ → Bool
hop_by_hop_flag w = some_bit w 0x01000000 32

abbrev pub unknown_hop_by_hop_flag : ℕ → Bool
unknown_hop_by_hop_flag w = some_bit w 0x02000000 16

abbrev pub ingress_to_egress_flag : ℕ → Bool
ingress_to_egress_flag w = some_bit w 0x00000020 64

abbrev pub reserved_flag : ℕ → Bool
reserved_flag w = some_bit w 0x00008000 8

-- the channel alert flags: CRCAF, bit 7, and NCCAF, bit 8
abbrev pub critical_alert : ℕ → Bool
critical_alert w = some_bit w 0x01000000 2

abbrev pub non_critical_alert : ℕ → Bool
non_critical_alert w = some_bit w 0x00800000 2

-- "38, a critical flag with its summary bit 0, or in a one-word area a summary bit with no flag of its kind"
unfoldable pub flag_unsummarized : ℕ → Bool
flag_unsummarized w =
    (hop_by_hop_flag w && not (cr_hbh w))
    || (ingress_to_egress_flag w && not (cr_ite w))
    || (reserved_flag w && not (cr_rsv w))

unfoldable pub summary_bare : ℕ → Bool
summary_bare w =
    (cr_hbh w && not (hop_by_hop_flag w))
    || (cr_ite w && not (ingress_to_egress_flag w))
    || (cr_rsv w && not (reserved_flag w))

unfoldable pub extension_read : List ℕ → AreaRead
extension_read area =
    if flag_unsummarized (flags_word area) || (eqb (length area) 4 && summary_bare (flags_word area)) then Faulty BadFlags 0 else WellFormed

-- "20 is for a critical one that affects us, the alert apart"; "(in a longer area such a bit counts as an unknown critical flag)". CRHbH
-- affects every switch and CRItE the egress; the class of switches that CRRsv affects is not specified, so it affects none.
unfoldable pub extension_stops : Bool → ℕ → Bool
extension_stops egress w =
    unknown_hop_by_hop_flag w || (cr_hbh w && not (hop_by_hop_flag w)) || (cr_ite w && egress)

-- the area by the edition: well formed or not, 20, and as it is sent: "later area octets are carried unread"
unfoldable pub area_read : Ways → List ℕ → AreaRead
area_read S area = if S.rfc7179 then extension_read area else draft_read area

unfoldable pub area_stops : Ways → Bool → List ℕ → Bool
area_stops S egress area = if S.rfc7179 then extension_stops egress (flags_word area) else draft_stops egress area

-- "With the strip flag .. Without the flag the area is copied."
unfoldable pub area_sent : Ways → List ℕ → List ℕ
area_sent S area = if S.strip && not S.rfc7179 then stripped area else area
