-- The rules' answers, settings and readings in the shapes that the code hands on.
use Rattle.std.specs.Prelude.{ℕ, ◌+◌, ◌-◌, ◌/◌, ◌%◌, ◌≤◌, ◌<◌, ◌≡◌, Bool, false, not, ◌&&◌, ◌||◌, length, eqb, if◌then◌else◌, Option, Result, Ok, Err}
use mathlib.Core.List.{List, [], ◌++◌, foldl}
use Rattle.rules.specs.Octets.{octet, be16, octets16, octets48, part, put}
use Rattle.rules.specs.Fields.{Field, field, cut, fields_at}
use Rattle.rules.specs.Settings.{Ways, newer, hop_of, settings_read, ways_of}
use Rattle.rules.specs.Link.{ethertype_tag}
use Rattle.rules.specs.Header.{version, reserved, multi, hop_count, header_word, read_frame, inner_start, area_of, inner_of}
use Rattle.rules.specs.Extension.{area_sent}
use Rattle.rules.specs.Options as O
use Rattle.rules.specs.Options.{OptionRead, Taken, TlvOption, Options, options, fault, some_key, hop_by_hop_critical, ingress_to_egress_critical}
use Rattle.rules.specs.Options.{option_size, strippable, kept_options, octets_of, stripped}
use Rattle.rules.specs.Channel.{all_egress_rbridges, ethertype_channel, ethertype_is_is}
use Rattle.rules.specs.Answer as A
use Rattle.octets.specs.Copy.{Wrote}
use Rattle.rules.specs.WayOut as W
use Rattle.rules.specs.declared.Header.{Header}
use Rattle.handler.specs.declared.answers.Answer.{Answer}
use Rattle.rules.specs.declared.NextHop.{NextHop}
use Rattle.rules.specs.declared.Number.{Number}
use Rattle.rules.specs.declared.Number.TheVariants.{ChbhMissing, CiteMissing}
use Rattle.rules.specs.declared.ChannelFault.{ChannelFault}
use Rattle.rules.specs.declared.ChannelFault.TheVariants.{HeaderShort, OtherEthertype}
use Rattle.handler.specs.declared.validation.Flags.{Flags}
use Rattle.handler.specs.declared.way.Own.{Own}
use Rattle.handler.specs.declared.way.Lookup.{Lookup}
use Rattle.handler.specs.declared.way.WayOut.{WayOut}
use Rattle.handler.specs.declared.options.Cursor.{Cursor}
use Rattle.handler.specs.declared.options.AreaFault.{AreaFault}

-- the switch of settings octets
abbrev pub switch_at : List ℕ → Ways
switch_at s = ways_of (settings_read s)

-- what settings say, asked for one destination only
abbrev pub only_for : ℕ → Ways → Ways
only_for d S = record { nickname = S.nickname; mac = S.mac; strip = S.strip; rfc7179 = S.rfc7179; hop = λ e. S.hop d }

-- an answer as numbers: the octets written by their length
abbrev pub answer_of : A.Handled → Answer
answer_of a =
    record {
      number = a.number;
      written = length a.octets;
      start = a.start;
      length = a.size;
      neighbour = a.via;
      beside = length a.beside;
      beside_neighbour = a.beside_via;
    }

abbrev pub dropped_by : ℕ → Answer
dropped_by number = answer_of (A.dropped number)

abbrev pub unwritten_by : ℕ → ℕ → ℕ → Answer
unwritten_by number start size = answer_of (A.delivered number start size)

abbrev pub wrote_by : ℕ → ℕ → ℕ → Answer
wrote_by number written via =
    record { number = number; written = written; start = 0; length = 0; neighbour = via; beside = 0; beside_neighbour = 0 }

-- with a reply beside it
abbrev pub beside_by : Answer → Answer → Answer
beside_by a reply =
    record {
      number = a.number;
      written = a.written;
      start = a.start;
      length = a.length;
      neighbour = a.neighbour;
      beside = reply.written;
      beside_neighbour = reply.neighbour;
    }

-- our own nickname and MAC, which stands above 16 bits of anything
pub record Owns (own : Own) (S : Ways) : Type 0 where
  pub named : own.nickname ≡ S.nickname
  pub addressed : own.word / 65536 ≡ S.mac

-- what a handling looks up, which asks for the next hop of one destination only
abbrev pub ways_by : Lookup → Ways
ways_by t = record { nickname = t.own.nickname; mac = t.own.word / 65536; strip = t.strip; rfc7179 = t.rfc7179; hop = λ d. t.hop }

-- the record that rules, and the flags, once one more field is read
unfoldable pub ruled_by : ℕ → Option NextHop → Field → Option NextHop
ruled_by d best cut = best
ruled_by d best (field tag v) = if eqb tag 2 then newer d best (hop_of v) else best

abbrev pub no_flags : Flags
no_flags = record { strip = false; rfc7179 = false }

unfoldable pub flagged_by : Flags → Field → Flags
flagged_by flags cut = flags
flagged_by flags (field tag v) =
    if eqb tag 3 then record { strip = not (eqb (octet v 0) 0); rfc7179 = flags.rfc7179 } else
    if eqb tag 6 then record { strip = flags.strip; rfc7179 = eqb (octet v 0) 2 }
    else flags

-- what the fields from a place on give, folded
abbrev pub FoldedFrom : {A : Type 0} → (A → Field → A) → A → List ℕ → ℕ → A → Type 0
FoldedFrom step start s from r = r ≡ foldl step start (fields_at s from)

-- the answer of whoever asks for the way out, and the buffer after it
pub record WayDone (a : W.WayOut) (r : WayOut) (out out' : List ℕ) : Type 0 where
  pub answer : r ≡ record { number = a.number; length = length a.octets }
  pub after : out' ≡ put out 0 a.octets

-- an area as a frame has it: whole words, of which Op-Length counts at most 31
pub record AreaWords (area : List ℕ) : Type 0 where
  pub few : length area ≤ 124
  pub whole : length area % 4 ≡ 0

-- a place in an area, behind its first word; what is kept never ends further on than what is read
pub record CursorIn (area : List ℕ) (c : Cursor) : Type 0 where
  pub words : AreaWords area
  pub from : 4 ≤ c.at
  pub aligned : c.at % 4 ≡ 0
  pub inside : c.at ≤ length area
  pub fewer : c.to ≤ c.at

-- an option that is whole in an area
pub record WholeOption (c : Cursor) (key size : ℕ) : Type 0 where
  pub its_key : key < 512
  pub short : size < 119
  pub inside : c.at + option_size size ≤ 124
  pub fewer : c.to ≤ c.at

-- the cursor behind an option that was read, or the fault
abbrev pub cursor_by : Bool → Cursor → ℕ → ℕ → ℕ → Cursor
cursor_by strip c key size next =
    record {
      at = next;
      to = if strip && strippable key size then c.to else c.to + option_size size;
      floor = key + 1;
      hop = c.hop || hop_by_hop_critical key;
      egress = c.egress || ingress_to_egress_critical key;
    }

abbrev pub read_by : Bool → Cursor → OptionRead → Result Cursor AreaFault
read_by strip c (Taken key size next) = Ok (cursor_by strip c key size next)
read_by strip c (O.Fault number place) = Err (record { number = number; place = place })

-- an area as it is sent, and which of its options are
abbrev pub sent_of : Bool → List ℕ → List ℕ
sent_of strip area = if strip then stripped area else area

abbrev pub options_sent : Bool → List TlvOption → List TlvOption
options_sent strip os = if strip then kept_options os else os

-- what a walk over the options finds: critical options of the two kinds and the octets of those that are sent, or the first fault
pub data Walk : Type 0 where
  ended : Bool → Bool → List ℕ → Walk
  stopped : Number → ℕ → Walk

abbrev pub found_by : List ℕ → Result Cursor AreaFault → Walk
found_by written (Ok c) = ended c.hop c.egress written
found_by written (Err e) = stopped e.number e.place

-- once `hop` and `egress` critical ones were met and some octets written
abbrev pub walk_of : Bool → Bool → Bool → List ℕ → Options → Walk
walk_of strip hop egress written (fault number place) = stopped number place
walk_of strip hop egress written (options os) =
    ended (hop || some_key hop_by_hop_critical os) (egress || some_key ingress_to_egress_critical os) (written ++ octets_of (options_sent strip os))

-- all options read, and those that are sent written behind the first word
pub record AreaWalked (strip : Bool) (area kept kept' : List ℕ) (r : Result Cursor AreaFault) : Type 0 where
  pub written : List ℕ
  pub found : found_by written r ≡ walk_of strip false false [] (O.options_of area)
  pub wrote : (c : Cursor) → r ≡ Ok c → Wrote written 4 c.to kept kept'
  pub few : (c : Cursor) → r ≡ Ok c → c.to ≤ 124
  pub wide : length kept' ≡ 124

-- the same with nothing written
pub record OptionsChecked (area : List ℕ) (r : Result Cursor AreaFault) : Type 0 where
  pub written : List ℕ
  pub found : found_by written r ≡ walk_of false false false [] (O.options_of area)

-- 34 and 35
abbrev pub summarized_by : List ℕ → Result Cursor AreaFault → Result Cursor AreaFault
summarized_by area (Err e) = Err e
summarized_by area (Ok c) =
    if c.hop && not (O.chbh area) then Err (record { number = ChbhMissing; place = 0 }) else
    if c.egress && not (O.cite area) then Err (record { number = CiteMissing; place = 0 })
    else Ok c

abbrev pub area_read_of : Result Cursor AreaFault → O.AreaRead
area_read_of (Ok c) = O.WellFormed
area_read_of (Err e) = O.Faulty e.number e.place

-- an area read, and what is sent of it put aside; what is put aside of a faulty one does not matter
pub record AreaKept (strip : Bool) (area kept kept' : List ℕ) (r : Result Cursor AreaFault) : Type 0 where
  pub read : area_read_of r ≡ O.draft_read area
  pub wrote : (c : Cursor) → r ≡ Ok c → Wrote (sent_of strip area) 0 c.to kept kept'
  pub few : (c : Cursor) → r ≡ Ok c → c.to ≤ 124
  pub wide : (c : Cursor) → r ≡ Ok c → length kept' ≡ 124

-- how long a link header is
abbrev pub link_size : ℕ → ℕ
link_size vlan = if eqb vlan 0 then 14 else 18

-- the 28 octets of a reply between its link header and its body
abbrev pub reply_octets : Own → ℕ → ℕ → ℕ → List ℕ
reply_octets own ingress number code =
    octets16 0x003F
    ++ octets16 ingress
    ++ octets16 own.nickname
    ++ octets48 all_egress_rbridges
    ++ octets48 (own.word / 65536)
    ++ octets16 ethertype_tag
    ++ octets16 0x0001
    ++ octets16 ethertype_channel
    ++ octets16 number
    ++ octets16 (0xC000 + code)

-- a forwarded frame behind its link header, with the area as it is sent
abbrev pub sent_by : ℕ → ℕ → ℕ
sent_by w words = header_word (version w) (reserved w) (multi w) words (hop_count w - 1)

-- the header as sent, its nicknames as they were received
abbrev pub header_sent : List ℕ → Header → ℕ → List ℕ
header_sent f h words = octets16 (sent_by h.word words) ++ part f (h.place + 2) 4

unfoldable pub rest_with : List ℕ → List ℕ → Header → List ℕ
rest_with area f h = octets16 (sent_by h.word (length area / 4)) ++ octets16 h.egress ++ octets16 h.ingress ++ area ++ inner_of f h

-- the area that goes on
pub record Sends (S : Ways) (f : List ℕ) (h : Header) (area : List ℕ) : Type 0 where
  pub goes : area_sent S (area_of f h) ≡ area
  pub few : length area ≤ 124

-- neither the channel's Ethertype nor that of L2-IS-IS
abbrev pub foreign_by : ℕ → Bool
foreign_by ethertype = not (eqb ethertype ethertype_channel) && not (eqb ethertype ethertype_is_is)

-- what is wrong with a message that ends within its header
abbrev pub short_fault : List ℕ → ChannelFault
short_fault inner = if foreign_by (be16 inner 16) then OtherEthertype else HeaderShort

-- the codes that a message may keep from being sent
abbrev pub silenced_by_sl : ℕ → Bool
silenced_by_sl code = eqb code 4 || eqb code 5

-- a frame that was read and of which neither 17 nor 18 is given; its nicknames stand in it as they were read
pub record Ready (f : List ℕ) (h : Header) : Type 0 where
  pub read : read_frame f ≡ Ok h
  pub hops_left : 0 < hop_count h.word
  pub area_whole : inner_start h ≤ length f
  pub short : length f ≤ 2048
  pub nicknames : octets16 h.egress ++ octets16 h.ingress ≡ part f (h.place + 2) 4

-- a reply written at the start of a buffer, and its length
pub record Replied (reply : List ℕ) (n : ℕ) (out out' : List ℕ) : Type 0 where
  pub wrote : Wrote reply 0 n out out'
  pub few : n ≤ 576

-- an answer with nothing beside it, and the output buffer after it
pub record Done (a : A.Handled) (r : Answer) (out out' : List ℕ) : Type 0 where
  pub answer : r ≡ answer_of a
  pub after : out' ≡ put out 0 a.octets
  pub alone : a.beside ≡ []

-- an area of which all is put aside
pub record AllKept (area kept kept' : List ℕ) (r : Result Cursor AreaFault) : Type 0 where
  pub read : area_read_of r ≡ O.WellFormed
  pub wrote : (c : Cursor) → r ≡ Ok c → Wrote area 0 c.to kept kept'
  pub wide : length kept' ≡ 124
