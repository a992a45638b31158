-- "Link header: DA 6, SA 6, optional tag 0x8100 with two octets, Ethertype 0x22F3. So 14 or 18 octets."
use Rattle.std.specs.Prelude.{ℕ, ◌-◌, List, [], ◌++◌, eqb, if◌then◌else◌}
use Rattle.rules.specs.Octets.{be16, octets16, octets48}
use Rattle.rules.specs.Settings.{Ways}
use Rattle.rules.specs.declared.NextHop.{NextHop}

-- IEEE 802.1Q; RFC 6325
abbrev pub ethertype_tag : ℕ
ethertype_tag = 0x8100

abbrev pub ethertype_trill : ℕ
ethertype_trill = 0x22F3

-- the length of a received link header; its Ethertype is the last two octets
unfoldable pub link_length : List ℕ → ℕ
link_length f = if eqb (be16 f 12) ethertype_tag then 18 else 14

abbrev pub link_ethertype : List ℕ → ℕ
link_ethertype f = be16 f (link_length f - 2)

-- T-01: "With one, the link header written is 18 octets, tag 0x8100 and that VLAN with zero priority."
unfoldable pub outer_tag : ℕ → List ℕ
outer_tag vlan = if eqb vlan 0 then [] else octets16 ethertype_tag ++ octets16 vlan

-- the link header written towards a neighbour: "neighbour MAC, own MAC, 0x22F3"
unfoldable pub link : Ways → NextHop → List ℕ
link S r = octets48 r.mac ++ octets48 S.mac ++ outer_tag r.vlan ++ octets16 ethertype_trill
