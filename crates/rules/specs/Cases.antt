-- "Boundary frames": C1 to C12 as one table of cases, each with what the definitions compute and what the paper says; then cases of the requests.
-- Cases that the paper gives in part are completed to whole frames, on both sides of each boundary.
use Rattle.std.specs.Prelude.{ℕ, ◌+◌, ◌-◌, ◌*◌, List, [], ◌∷◌, ◌++◌, map, length, drop, replicate, leb, if◌then◌else◌}
use Prim.Native.String.{String}
use Rattle.rules.specs.Fields.{field_at, fields_from, fields, length_good}
use Rattle.rules.specs.Settings.{hop_good, newer, ruling, next_hop, serial_met, switch_good, with_field}
use Rattle.rules.specs.Settings.{opens, continues, opened, settings_from, settings_of}
use Rattle.rules.specs.Link.{link_length, outer_tag, link}
use Rattle.rules.specs.Header.{read_frame, header_refusal, we_are_egress}
use Rattle.rules.specs.Options.{option_size, option_at, options_from, options_of, some_key, summarized, draft_read, draft_stops}
use Rattle.rules.specs.Options.{implemented, strippable, kept_options, octets_of, stripped}
use Rattle.rules.specs.Extension.{flag_unsummarized, summary_bare, extension_read, extension_stops, area_read, area_stops, area_sent}
use Rattle.rules.specs.Channel.{echo_read, channel_read, silenced, return_path, reply_inner, reply_rest, echo_body, error_reply, echo_reply}
use Rattle.rules.specs.Answer.{Handled}
use Rattle.rules.specs.Handling.{forwarded_rest, forwarded, onward, channel_message, alert_to, alert_of}
use Rattle.rules.specs.Handling.{alerted, transit, faulted, echoed, channelled, decapsulated}
use Rattle.rules.specs.Handling.{routed, handling, handled_with, handled, part_of}
use Rattle.rules.specs.Campus.{switch_named, order_good, value_good, nickname_new, room_good, serial_new, entry_known, field_refusal}
use Rattle.rules.specs.Campus.{with_next, described_from, described, clock_of, replies_made, staying, sent_on, first_waiting, next_after, run_from, plain_run}
use Rattle.rules.specs.Campus.{Outcome, hop_received, egress_received, entry_octets, trace_octets, some_edition2, trace_needed, campus}
use Rattle.rules.specs.Text.{ascii, hex_digit, decimal_from, entry_text, entries_text, printed}

pub record Case : Type 0 where
  pub name : String
  pub computed : List ℕ
  pub expected : List ℕ

-- an octet string in hex, blanks passed over, as the paper prints it
unfoldable pub digits : List ℕ → List ℕ
digits [] = []
digits (c ∷ s) = if leb 0x41 c then (c - 0x37) ∷ digits s else if leb 0x30 c then (c - 0x30) ∷ digits s else digits s

unfoldable pub pairs : List ℕ → List ℕ
pairs [] = []
pairs (a ∷ []) = []
pairs (a ∷ b ∷ s) = (a * 16 + b) ∷ pairs s

unfoldable pub hex : String → List ℕ
hex text = pairs (digits (ascii text))

-- an answer as numbers: number, start and length of the delivered part, neighbour; the length and the neighbour of a reply beside it; and
-- the octets written
unfoldable pub numbers : Handled → List ℕ
numbers a = a.number ∷ a.start ∷ a.size ∷ a.via ∷ length a.beside ∷ a.beside_via ∷ a.octets ++ a.beside

abbrev pub clock : List ℕ
clock = hex "000001000009"

-- one handling with room enough: dropped or heard; delivered; written
abbrev pub drops : String → List ℕ → List ℕ → ℕ → Case
drops name settings frame number =
    record { name = name; computed = numbers (handled settings clock 2048 576 frame); expected = number ∷ 0 ∷ 0 ∷ 0 ∷ 0 ∷ 0 ∷ [] }

abbrev pub delivers : String → List ℕ → List ℕ → ℕ → ℕ → ℕ → Case
delivers name settings frame number start size =
    record { name = name; computed = numbers (handled settings clock 2048 576 frame); expected = number ∷ start ∷ size ∷ 0 ∷ 0 ∷ 0 ∷ [] }

abbrev pub writes : String → List ℕ → List ℕ → ℕ → ℕ → List ℕ → Case
writes name settings frame number via octets =
    record { name = name; computed = numbers (handled settings clock 2048 576 frame); expected = number ∷ 0 ∷ 0 ∷ via ∷ 0 ∷ 0 ∷ octets }

abbrev pub prints : String → List ℕ → List ℕ → Case
prints name file text = record { name = name; computed = printed file; expected = text }

-- code, count, and the last of the trace entries
unfoldable pub ending : Outcome → List ℕ
ending o = o.code ∷ o.count ∷ drop (length o.trace - 8) o.trace

abbrev pub ends_in : ℕ → String → List ℕ → ℕ → List ℕ → Case
ends_in room name file count entry = record { name = name; computed = ending (campus file room); expected = 0 ∷ count ∷ entry }

abbrev pub ends : String → List ℕ → ℕ → List ℕ → Case
ends = ends_in 640

-- switch 0x0001, which reaches 0x0009 over 0x0005, without and with the strip flag
abbrev pub settings1 : List ℕ
settings1 = hex "01 0008 0001 020000000001  02 000E 0009 0005 020000000005 00000001"

abbrev pub settings1_strip : List ℕ
settings1_strip = settings1 ++ hex "03 0001 01"

-- a received frame: first TRILL word, egress, options area, inner frame
abbrev pub frame_to : List ℕ → List ℕ → List ℕ → List ℕ → List ℕ
frame_to word egress area inner = hex "020000000001 020000000002 22F3" ++ word ++ egress ++ hex "0004" ++ area ++ inner

-- the same, forwarded to 0x0005
abbrev pub frame_sent : List ℕ → List ℕ → List ℕ → List ℕ
frame_sent word area inner = hex "020000000005 020000000001 22F3" ++ word ++ hex "0009 0004" ++ area ++ inner

-- an ordinary inner frame of 20 octets in a VLAN
abbrev pub inner_in : List ℕ → List ℕ
inner_in vlan = hex "020000000077 020000000088 8100" ++ vlan ++ hex "0800 4500"

abbrev pub inner : List ℕ
inner = inner_in (hex "0005")

-- delivered to 0x0001 with an options area, first word and area given
abbrev pub area_taken : String → List ℕ → List ℕ → Case
area_taken name word area = delivers name settings1 (frame_to word (hex "0001") area inner) 51 (20 + length area) 20

-- the same, dropped with a number and the place in the area
abbrev pub area_refused : String → List ℕ → List ℕ → ℕ → ℕ → Case
area_refused name word area number place =
    record {
      name = name;
      computed = numbers (handled settings1 clock 2048 576 (frame_to word (hex "0001") area inner));
      expected = number ∷ place ∷ 0 ∷ 0 ∷ 0 ∷ 0 ∷ [];
    }

-- forwarded to 0x0005 with the strip flag set: first word and area before and after
abbrev pub strips : String → List ℕ → List ℕ → List ℕ → List ℕ → Case
strips name word area word' area' = writes name settings1_strip (frame_to word (hex "0009") area inner) 50 5 (frame_sent word' area' inner)

abbrev pub zeros : ℕ → List ℕ
zeros n = replicate n 0

abbrev pub file_c1 : List ℕ
file_c1 =
    hex "01 0008 0001 020000000001"
    ++ hex "02 000E 0003 0002 020000000002 00000001"
    ++ hex "01 0008 0002 020000000002"
    ++ hex "02 000E 0003 0003 020000000003 00000001"
    ++ hex "02 000E 0001 0001 020000000001 00000001"
    ++ hex "01 0008 0003 020000000003"
    ++ hex "02 000E 0001 0002 020000000002 00000001"
    ++ hex "04 0006 000001000009"
    ++ hex "05 003E 0002 020000000002 020000000001 22F3"
    ++ hex "0005 0003 0001 0180C2000042 020000000001"
    ++ hex "8100 0001 8946 0FF8 4000 30000001 02 00"
    ++ hex "000001000002 000000000000"

abbrev pub text_c1 : List ℕ
text_c1 =
    ascii "0002 O 50 05 0003\n"
    ++ ascii "0003 O 54 04 0003\n"
    ++ ascii "0002 R 50 3F 0001\n"
    ++ ascii "0001 R 56 3E 0001\n"
    ++ ascii "handled 4\n"

-- what 0x0003 writes at the second handling of C1
abbrev pub settings_c1 : List ℕ
settings_c1 = hex "01 0008 0003 020000000003  02 000E 0001 0002 020000000002 00000001"

abbrev pub request_c1 : List ℕ
request_c1 =
    hex "020000000003 020000000002 22F3 0004 0003 0001"
    ++ hex "0180C2000042 020000000001 8100 0001 8946 0FF8 4000 30000001 02 00 000001000002 000000000000"

abbrev pub reply_c1 : List ℕ
reply_c1 =
    hex "020000000002 020000000003 22F3 003F 0001 0003"
    ++ hex "0180C2000042 020000000003 8100 0001 8946 0FF8 C000 40000001 02 00 000001000002 000001000009"

-- two switches, each naming the other for 0x0003
abbrev pub file_c10 : List ℕ
file_c10 =
    hex "01 0008 0001 020000000001  02 000E 0003 0002 020000000002 00000001"
    ++ hex "01 0008 0002 020000000002  02 000E 0003 0001 020000000001 00000001"
    ++ hex "05 0016 0001 020000000001 020000000009 22F3 0005 0003 0009"

abbrev pub text_c10 : List ℕ
text_c10 =
    ascii "0001 O 50 05 0003\n"
    ++ ascii "0002 O 50 04 0003\n"
    ++ ascii "0001 O 50 03 0003\n"
    ++ ascii "0002 O 50 02 0003\n"
    ++ ascii "0001 O 50 01 0003\n"
    ++ ascii "0002 O 17 00 0003\n"
    ++ ascii "handled 6\n"

-- one switch whose record for 0x0009 names itself, and an echo from 0x0009 with the given first TRILL word
abbrev pub file_c11 : List ℕ → List ℕ
file_c11 word =
    hex "01 0008 0001 020000000001  02 000E 0009 0001 020000000001 00000001"
    ++ hex "05 003E 0001 020000000001 020000000009 22F3"
    ++ word
    ++ hex "0001 0009 0180C2000042 020000000009"
    ++ hex "8100 0001 8946 0FF8 4000 30000001 02 00 000001000002 000000000000"

-- switch 0x0001 with records for 0x0009 of a neighbour and a serial each, in the given order
abbrev pub settings_c12 : List ℕ → List ℕ
settings_c12 hops = hex "01 0008 0001 020000000001" ++ hops

abbrev pub live7 : List ℕ
live7 = hex "02 000E 0009 0007 020000000007 00000007"

abbrev pub live8 : List ℕ
live8 = hex "02 000E 0009 0008 020000000008 00000008"

abbrev pub withdrawn8 : List ℕ
withdrawn8 = hex "02 000E 0009 0000 020000000008 00000008"

abbrev pub frame_c12 : List ℕ
frame_c12 = frame_to (hex "0005") (hex "0009") [] inner

abbrev pub sent_c12 : List ℕ → List ℕ
sent_c12 mac = mac ++ hex "020000000001 22F3 0004 0009 0004" ++ inner

-- T-01: switch 0x0001 with the strip flag, which reaches 0x0009 and 0x0004 over the leased link of a VLAN
abbrev pub settings_vlan : List ℕ → List ℕ
settings_vlan vlan =
    hex "01 0008 0001 020000000001"
    ++ hex "02 0010 0009 0005 020000000005 00000001"
    ++ vlan
    ++ hex "02 0010 0004 0005 020000000005 00000001"
    ++ vlan
    ++ hex "03 0001 01"

-- a record of a serial, its length and its VLAN given
abbrev pub hop_vlan : List ℕ → List ℕ → List ℕ → List ℕ
hop_vlan size serial vlan = hex "02" ++ size ++ hex "0009 0005 020000000005 000000" ++ serial ++ vlan

-- number and octets written
unfoldable pub sizes : List ℕ → List ℕ → List ℕ
sizes settings frame = let a = handled settings clock 2048 576 frame in a.number ∷ length a.octets ∷ []

-- of a frame for 0x0009: outer tag, first word, area, and how many octets follow its inner frame
abbrev pub sizes_to : String → List ℕ → List ℕ → List ℕ → List ℕ → ℕ → ℕ → ℕ → Case
sizes_to name settings tag word area more number written =
    record {
      name = name;
      computed = sizes settings (hex "020000000001 020000000002" ++ tag ++ hex "22F3" ++ word ++ hex "0009 0004" ++ area ++ inner ++ zeros more);
      expected = number ∷ written ∷ [];
    }

-- an echo request with data, and a message of an unknown protocol, for 0x0001
abbrev pub message_to : List ℕ → List ℕ → List ℕ
message_to header body = frame_to (hex "0005") (hex "0001") [] (hex "0180C2000042 020000000009 8100 0001 8946" ++ header ++ body)

-- a file of one switch, a record and an empty frame
abbrev pub files : String → List ℕ → List ℕ → Case
files name hop expected =
    record {
      name = name;
      computed = ending (campus (hex "01 0008 0001 020000000001" ++ hop ++ hex "05 0002 0001") 640);
      expected = expected;
    }

-- T-09: switch 0x0001 of edition 2, which reaches 0x0009 and 0x0004 over 0x0005
abbrev pub settings2 : List ℕ
settings2 =
    hex "01 0008 0001 020000000001  02 000E 0009 0005 020000000005 00000001"
    ++ hex "02 000E 0004 0005 020000000005 00000001  06 0001 02"

-- number, octets written, and octets of the reply beside, with room in both buffers
unfoldable pub sizes_in : ℕ → ℕ → List ℕ → List ℕ
sizes_in room beside_room frame = let a = handled settings2 clock room beside_room frame in a.number ∷ length a.octets ∷ length a.beside ∷ []

-- of a frame in transit to 0x0009, and of one for 0x0001: first word, area, inner frame
abbrev pub transits : String → String → String → List ℕ → ℕ → ℕ → ℕ → Case
transits name word area inner number written beside =
    record { name = name; computed = sizes_in 2048 576 (frame_to (hex word) (hex "0009") (hex area) inner); expected = number ∷ written ∷ beside ∷ [] }

abbrev pub arrives : String → String → String → List ℕ → ℕ → ℕ → Case
arrives name word area inner number written =
    record { name = name; computed = sizes_in 2048 576 (frame_to (hex word) (hex "0001") (hex area) inner); expected = number ∷ written ∷ 0 ∷ [] }

-- a channel message: protocol, flags and ERR, body; an echo request that asks for a reply; a message of an unknown protocol
abbrev pub message : String → String → List ℕ
message header body = hex "0180C2000042 020000000009 8100 0001 8946" ++ hex header ++ hex body

abbrev pub asks : List ℕ
asks = message "0FF8 4000" "30000001 02 00 000001000002 000000000000"

abbrev pub strange : List ℕ
strange = message "0002 4000" ""

-- C1 with three switches of edition 2, its request with the critical channel alert: 0x0002 answers it in transit too
abbrev pub file_alert : List ℕ
file_alert =
    hex "01 0008 0001 020000000001  06 0001 02"
    ++ hex "02 000E 0003 0002 020000000002 00000001"
    ++ hex "01 0008 0002 020000000002  06 0001 02"
    ++ hex "02 000E 0003 0003 020000000003 00000001"
    ++ hex "02 000E 0001 0001 020000000001 00000001"
    ++ hex "01 0008 0003 020000000003  06 0001 02"
    ++ hex "02 000E 0001 0002 020000000002 00000001"
    ++ hex "04 0006 000001000009"
    ++ hex "05 0042 0002 020000000002 020000000001 22F3"
    ++ hex "0045 0003 0001 81000000"
    ++ asks

abbrev pub text_alert : List ℕ
text_alert =
    ascii "0002 O 50 05 0003\n"
    ++ ascii "0003 O 54 04 0003\n"
    ++ ascii "0001 R 56 3F 0001\n"
    ++ ascii "0002 R 50 3F 0001\n"
    ++ ascii "0001 R 56 3E 0001\n"
    ++ ascii "handled 5\n"

-- one switch of edition 2 whose records name itself, and an alerted echo with the given first TRILL word
abbrev pub file_self : List ℕ → List ℕ
file_self word =
    hex "01 0008 0001 020000000001  02 000E 0009 0001 020000000001 00000001"
    ++ hex "02 000E 0003 0001 020000000001 00000001  06 0001 02"
    ++ hex "05 0042 0001 020000000001 020000000009 22F3"
    ++ word
    ++ hex "0003 0009 81000000"
    ++ asks

-- editions 2 and 1, the second with the strip flag, each naming the other for 0x0003
abbrev pub file_mixed : List ℕ
file_mixed =
    hex "01 0008 0001 020000000001  06 0001 02  02 000E 0003 0002 020000000002 00000001"
    ++ hex "01 0008 0002 020000000002  03 0001 01  02 000E 0003 0001 020000000001 00000001"
    ++ hex "05 0022 0001 020000000001 020000000009 22F3 00C5 0003 0009 40000000 4583AABBCC000000"

abbrev pub text_mixed : List ℕ
text_mixed =
    ascii "0001 O 50 05 0003\n"
    ++ ascii "0002 O 50 04 0003\n"
    ++ ascii "0001 O 38 03 0003\n"
    ++ ascii "handled 3\n"

unfoldable pub cases : List Case
cases =
    prints "C1 the whole output" file_c1 text_c1
    ∷ writes "C1 the reply" settings_c1 request_c1 54 2 reply_c1
    ∷ drops "C2 hop 0 at the egress" settings1 (frame_to (hex "0000") (hex "0001") [] inner) 17
    ∷ drops "C2 hop 0 in transit" settings1 (frame_to (hex "0000") (hex "0009") [] inner) 17
    ∷ delivers "C3 hop 1 at the egress" settings1 (frame_to (hex "0001") (hex "0001") [] inner) 51 20 20
    ∷ writes "C3 hop 1 in transit" settings1 (frame_to (hex "0001") (hex "0009") [] inner) 50 5 (frame_sent (hex "0000") [] inner)
    ∷ area_taken "C4 Length 118 in 31 words" (hex "07C5") (hex "00000000 45F6" ++ zeros 118)
    ∷ area_refused "C5 Length 119 in 31 words" (hex "07C5") (hex "00000000 45F7" ++ zeros 118) 30 4
    ∷ record { name = "C6 octets taken"; computed = map option_size (2 ∷ 3 ∷ 6 ∷ 7 ∷ []); expected = 4 ∷ 8 ∷ 8 ∷ 12 ∷ [] }
    ∷ area_taken "C6 Length 2 in one word" (hex "0085") (hex "00000000 4582AAAA")
    ∷ area_refused "C6 Length 2 in two" (hex "00C5") (hex "00000000 4582AAAA 00000000") 32 8
    ∷ area_refused "C6 Length 3 in one word" (hex "0085") (hex "00000000 4583AAAA") 31 4
    ∷ area_taken "C6 Length 3 in two" (hex "00C5") (hex "00000000 4583AAAA AA000000")
    ∷ area_refused "C6 Length 3 in three" (hex "0105") (hex "00000000 4583AAAA AA000000 00000000") 32 12
    ∷ area_taken "C6 Length 6 in two words" (hex "00C5") (hex "00000000 4586AAAA AAAAAAAA")
    ∷ area_refused "C6 Length 6 in three" (hex "0105") (hex "00000000 4586AAAA AAAAAAAA 00000000") 32 12
    ∷ area_refused "C6 Length 7 in two words" (hex "00C5") (hex "00000000 4587AAAA AAAAAAAA") 31 4
    ∷ area_taken "C6 Length 7 in three" (hex "0105") (hex "00000000 4587AAAA AAAAAAAA AA000000")
    ∷ strips "C7 stripped" (hex "0105") (hex "00000000 41820007 4583AABB CC000000") (hex "0084") (hex "00000000 41820007")
    ∷ strips "C7 an immutable option stays" (hex "0105") (hex "00000000 41820007 4503AABB CC0000EE") (hex "0104") (hex "00000000 41820007 4503AABB CC0000EE")
    ∷ writes
    "C7 without the flag"
    settings1
    (frame_to (hex "0105") (hex "0009") (hex "00000000 41820007 4583AABB CC000000") inner)
    50
    5
    (frame_sent (hex "0104") (hex "00000000 41820007 4583AABB CC000000") inner)
    ∷ area_taken "C8 rising keys" (hex "00C5") (hex "00000000 41820007 45820008")
    ∷ area_refused "C8 equal keys" (hex "00C5") (hex "00000000 41820007 41820008") 33 8
    ∷ area_refused "C8 falling keys" (hex "00C5") (hex "00000000 45820007 41820008") 32 8
    ∷ drops "C9 VLAN 0" settings1 (frame_to (hex "0005") (hex "0001") [] (inner_in (hex "0000"))) 23
    ∷ delivers "C9 VLAN 1" settings1 (frame_to (hex "0005") (hex "0001") [] (inner_in (hex "0001"))) 51 20 20
    ∷ delivers "C9 VLAN 4,094" settings1 (frame_to (hex "0005") (hex "0001") [] (inner_in (hex "0FFE"))) 51 20 20
    ∷ drops "C9 VLAN 4,095" settings1 (frame_to (hex "0005") (hex "0001") [] (inner_in (hex "0FFF"))) 23
    ∷ prints "C10 six handlings" file_c10 text_c10
    ∷ ends "C11 hop 1: 65 handlings" (file_c11 (hex "0001")) 65 (hex "0001 01 11 00 00 0009")
    ∷ ends "C11 hop 0: one" (file_c11 (hex "0000")) 1 (hex "0001 00 11 00 00 0001")
    ∷ writes "C12 serial 7" (settings_c12 live7) frame_c12 50 7 (sent_c12 (hex "020000000007"))
    ∷ drops "C12 serial 7, then withdrawn" (settings_c12 (live7 ++ withdrawn8)) frame_c12 21
    ∷ drops "C12 withdrawn, then serial 7" (settings_c12 (withdrawn8 ++ live7)) frame_c12 21
    ∷ writes "C12 serials 7 and 8" (settings_c12 (live7 ++ live8)) frame_c12 50 8 (sent_c12 (hex "020000000008"))
    ∷ writes "C12 serials 8 and 7" (settings_c12 (live8 ++ live7)) frame_c12 50 8 (sent_c12 (hex "020000000008"))
    ∷ drops "C12 serial 8 twice" (settings_c12 (live8 ++ withdrawn8)) frame_c12 1
    ∷ area_refused "T-02 key 0 without CHbH" (hex "0085") (hex "00000000 00000000") 34 0
    ∷ drops "T-02 key 0 with CHbH" settings1 (frame_to (hex "0085") (hex "0009") (hex "80000000 00000000") inner) 20
    ∷ area_refused "T-02 reserved Length, second option" (hex "00C5") (hex "00000000 41820007 45FF0000") 30 8
    ∷ area_refused "T-02 past the area" (hex "0085") (hex "00000000 45830000") 31 4
    ∷ area_refused "T-02 key below" (hex "00C5") (hex "00000000 45800000 41820007") 32 8
    ∷ area_refused "T-02 CHbH missing, then reserved" (hex "00C5") (hex "00000000 00000000 457F0000") 30 8
    ∷ area_refused "T-02 CItE missing" (hex "0085") (hex "00000000 80000000") 35 0
    ∷ area_refused "T-02 both missing" (hex "00C5") (hex "00000000 00000000 80000000") 34 0
    ∷ area_refused "T-02 reserved and equal" (hex "00C5") (hex "00000000 41820007 41FF0000") 30 8
    ∷ area_refused "T-02 Length 118 at 8 of 31 words" (hex "07C5") (hex "00000000 41820007 45F6" ++ zeros 114) 31 8
    ∷ drops "T-02 summary bits alone" settings1 (frame_to (hex "0045") (hex "0009") (hex "C0000000") inner) 20
    ∷ strips "T-03 Flow ID of Length 0" (hex "0085") (hex "00000000 41800000") (hex "0044") (hex "00000000")
    ∷ strips "T-03 Flow ID of Length 1" (hex "0085") (hex "00000000 4181AA00") (hex "0044") (hex "00000000")
    ∷ strips "T-03 Flow ID of Length 2" (hex "0085") (hex "00000000 4182AAAA") (hex "0084") (hex "00000000 4182AAAA")
    ∷ strips "T-03 Flow ID of Length 3" (hex "00C5") (hex "00000000 4183AAAA AA000000") (hex "0044") (hex "00000000")
    ∷ strips "T-03 the probe, Length 5" (hex "00C5") (hex "00000000 4185AAAA AAAAAA00") (hex "0044") (hex "00000000")
    ∷ strips "T-03 Flow ID of Length 118" (hex "07C5") (hex "00000000 41F6" ++ zeros 118) (hex "0044") (hex "00000000")
    ∷ strips "T-03 MT 0, Length 2" (hex "0085") (hex "00000000 4102AAAA") (hex "0084") (hex "00000000 4102AAAA")
    ∷ strips "T-03 MT 0, Length 5" (hex "00C5") (hex "00000000 4105AAAA AAAAAA00") (hex "00C4") (hex "00000000 4105AAAA AAAAAA00")
    ∷ strips "T-03 IE 1, Length 2" (hex "0085") (hex "00000000 C182AAAA") (hex "0084") (hex "00000000 C182AAAA")
    ∷ strips "T-03 IE 1, Length 5" (hex "00C5") (hex "00000000 C185AAAA AAAAAA00") (hex "00C4") (hex "00000000 C185AAAA AAAAAA00")
    ∷ strips "T-03 pad of Length 5" (hex "00C5") (hex "00000000 6085AAAA AAAAAA00") (hex "00C4") (hex "00000000 6085AAAA AAAAAA00")
    ∷ writes
    "T-03 the probe without the flag"
    settings1
    (frame_to (hex "00C5") (hex "0009") (hex "00000000 4185AAAA AAAAAA00") inner)
    50
    5
    (frame_sent (hex "00C4") (hex "00000000 4185AAAA AAAAAA00") inner)
    ∷ writes
    "T-01 VLAN 5"
    (settings_vlan (hex "0005"))
    (frame_to (hex "0005") (hex "0009") [] inner)
    50
    5
    (hex "020000000005 020000000001 8100 0005 22F3 0004 0009 0004" ++ inner)
    ∷ writes "T-01 VLAN 0 in 16 octets" (settings_vlan (hex "0000")) (frame_to (hex "0005") (hex "0009") [] inner) 50 5 (frame_sent (hex "0004") [] inner)
    ∷ sizes_to "T-01 2,044 octets, VLAN 5" (settings_vlan (hex "0005")) [] (hex "0005") [] 2004 50 2048
    ∷ sizes_to "T-01 2,045 octets, VLAN 5" (settings_vlan (hex "0005")) [] (hex "0005") [] 2005 29 0
    ∷ sizes_to "T-01 2,048 octets, VLAN 0" (settings_vlan (hex "0000")) [] (hex "0005") [] 2008 50 2048
    ∷ sizes_to "T-01 2,048 octets tagged, VLAN 5" (settings_vlan (hex "0005")) (hex "8100 0007") (hex "0005") [] 2004 50 2048
    ∷ sizes_to "T-01 2,048 octets tagged, VLAN 0" (settings_vlan (hex "0000")) (hex "8100 0007") (hex "0005") [] 2004 50 2044
    ∷ sizes_to "T-01 2,048 octets, 8 stripped" (settings_vlan (hex "0005")) [] (hex "00C5") (hex "00000000 45860000 00000000") 1996 50 2044
    ∷ sizes_to "T-01 2,048 octets, none stripped" (settings_vlan (hex "0005")) [] (hex "00C5") (hex "00000000 45060000 00000000") 1996 29 0
    ∷ sizes_to "T-01 no next hop" (hex "01 0008 0001 020000000001") [] (hex "0005") [] 2008 21 0
    ∷ record {
      name = "T-01 the longest echo reply";
      computed = sizes (settings_vlan (hex "0FFE")) (message_to (hex "0FF8 4000") (hex "30000001 02 00 000001000002 000000000000" ++ zeros 512));
      expected = 54 ∷ 576 ∷ [];
    }
    ∷ record {
      name = "T-01 the longest error reply";
      computed = sizes (settings_vlan (hex "0001")) (message_to (hex "0002 4000") (zeros 128));
      expected = 53 ∷ 174 ∷ [];
    }
    ∷ drops "T-01 VLAN 4,095" (settings_vlan (hex "0FFF")) (frame_to (hex "0005") (hex "0009") [] inner) 1
    ∷ drops "T-01 priority bits" (settings_vlan (hex "2005")) (frame_to (hex "0005") (hex "0009") [] inner) 1
    ∷ drops "T-01 a record of 15 octets" (settings_c12 (hop_vlan (hex "000F") (hex "01") (hex "00"))) frame_c12 1
    ∷ writes
    "T-01 the ruling record's VLAN"
    (settings_c12 (hop_vlan (hex "0010") (hex "07") (hex "0005") ++ hop_vlan (hex "0010") (hex "08") (hex "0000")))
    frame_c12
    50
    5
    (sent_c12 (hex "020000000005"))
    ∷ files "T-01 VLAN 4,094 in a file" (hop_vlan (hex "0010") (hex "01") (hex "0FFE")) (0 ∷ 1 ∷ hex "0001 00 0A 00 00 0000")
    ∷ files "T-01 VLAN 4,095 in a file" (hop_vlan (hex "0010") (hex "01") (hex "0FFF")) (44 ∷ 0 ∷ [])
    ∷ files "T-01 priority bits in a file" (hop_vlan (hex "0010") (hex "01") (hex "2005")) (44 ∷ 0 ∷ [])
    ∷ files "T-01 15 octets in a file" (hop_vlan (hex "000F") (hex "01") (hex "00")) (42 ∷ 0 ∷ [])
    ∷ transits "T-09 critical alert, echo" "0045" "81000000" asks 50 64 60
    ∷ arrives "T-09 critical alert, echo, at the egress" "0045" "81000000" asks 54 60
    ∷ transits "T-09 non-critical alert, echo" "0045" "00800000" asks 50 64 60
    ∷ transits "T-09 critical flag, no summary bit" "0045" "01000000" asks 38 0 0
    ∷ transits "T-09 summary bit, no flag, one word" "0045" "80000000" asks 38 0 0
    ∷ transits "T-09 CRHbH, no flag, two words" "0085" "80000000 00000000" asks 20 0 0
    ∷ arrives "T-09 CRHbH, no flag, two words, at the egress" "0085" "80000000 00000000" asks 20 0
    ∷ transits "T-09 CRItE, no flag, two words" "0085" "40000000 00000000" asks 50 68 0
    ∷ arrives "T-09 CRItE, no flag, two words, at the egress" "0085" "40000000 00000000" asks 20 0
    ∷ transits "T-09 critical alert, unknown protocol" "0045" "81000000" strange 53 76 0
    ∷ transits "T-09 critical alert, unknown protocol, silent" "0045" "81000000" (message "0002 C000" "") 25 0 0
    ∷ transits "T-09 non-critical alert, unknown protocol" "0045" "00800000" strange 50 46 0
    ∷ transits "T-09 both alerts, unknown protocol" "0045" "81800000" strange 53 76 0
    ∷ transits "T-09 critical alert, ERR 1" "0045" "81000000" (message "0FF8 4001" "") 26 0 0
    ∷ transits "T-09 non-critical alert, ERR 1" "0045" "00800000" (message "0FF8 4001" "") 50 46 0
    ∷ transits "T-09 critical alert, ordinary frame" "0045" "81000000" inner 50 44 0
    ∷ arrives "T-09 critical alert, ordinary frame, at the egress" "0045" "81000000" inner 51 0
    ∷ transits "T-09 unknown critical flag" "0045" "90000000" asks 20 0 0
    ∷ transits "T-09 unknown critical flag beside the alert" "0045" "83000000" asks 20 0 0
    ∷ transits "T-09 critical reserved flag" "0045" "20020000" inner 50 44 0
    ∷ arrives "T-09 critical reserved flag, at the egress" "0045" "20020000" inner 51 0
    ∷ transits "T-09 CRItE and its flag" "0045" "40000020" asks 50 64 0
    ∷ transits "T-09 CRItE and a non-critical alert" "0045" "40800020" asks 50 64 0
    ∷ arrives "T-09 CRItE and its flag, at the egress" "0045" "40000020" asks 20 0
    ∷ transits "T-09 critical alert, echo reply" "0045" "81000000" (message "0FF8 4000" "40000001 02 00 000001000002 000000000000") 50 64 0
    ∷ transits "T-09 critical alert, reply mode 1" "0045" "81000000" (message "0FF8 4000" "30000001 01 00 000001000002 000000000000") 50 64 0
    ∷ transits "T-09 critical alert in three words" "00C5" "81000000 FFFFFFFF 12345678" asks 50 72 60
    ∷ transits "T-09 no area" "0005" "" inner 50 40 0
    ∷ arrives "T-09 no area, at the egress" "0005" "" inner 51 0
    ∷ record { name = "T-09 second buffer of 575"; computed = sizes_in 2048 575 (frame_to (hex "0005") (hex "0009") [] inner); expected = 37 ∷ 0 ∷ 0 ∷ [] }
    ∷ record { name = "T-09 both buffers short"; computed = sizes_in 2047 575 (frame_to (hex "0005") (hex "0009") [] inner); expected = 2 ∷ 0 ∷ 0 ∷ [] }
    ∷ prints "T-09 replies wait for the original" file_alert text_alert
    ∷ ends_in 32768 "T-09 hop 2: two replies, 131 handlings" (file_self (hex "0042")) 131 (hex "0001 01 11 00 00 0009")
    ∷ ends_in 32768 "T-09 hop 0: one" (file_self (hex "0040")) 1 (hex "0001 00 11 00 00 0003")
    ∷ prints "T-09 editions 2 and 1" file_mixed text_mixed
    ∷ files "T-09 edition 2, 640 octets" (hex "06 0001 02") (49 ∷ 0 ∷ [])
    ∷ files "T-09 edition 2, then 1" (hex "06 0001 02  06 0001 01") (0 ∷ 1 ∷ hex "0001 00 0A 00 00 0000")
    ∷ files "T-09 value 3" (hex "06 0001 03") (44 ∷ 0 ∷ [])
    ∷ files "T-09 edition 2, then value 0" (hex "06 0001 02  06 0001 00") (44 ∷ 0 ∷ [])
    ∷ files "T-09 two octets" (hex "06 0002 0202") (42 ∷ 0 ∷ [])
    ∷ record { name = "T-09 before any switch"; computed = ending (campus (hex "06 0001 02") 640); expected = 43 ∷ 0 ∷ [] }
    ∷ record { name = "T-09 639 octets, before any switch"; computed = ending (campus (hex "06 0001 02") 639); expected = 49 ∷ 0 ∷ [] }
    ∷ record { name = "T-09 32,767 octets"; computed = ending (campus (file_self (hex "0042")) 32767); expected = 49 ∷ 0 ∷ [] }
    ∷ drops "T-09 settings with value 3" (settings1 ++ hex "06 0001 03") (frame_to (hex "0005") (hex "0009") [] inner) 1
    ∷ []

-- The two sides of the claim, case by case: the values computed (to open this is to open all that a case computes with),
unfoldable pub computed_in : List Case → List (List ℕ)
unfolding digits pairs hex numbers ending sizes sizes_in ascii hex_digit decimal_from entry_text entries_text printed field_at fields_from fields length_good
    hop_good newer ruling next_hop serial_met switch_good with_field opens continues opened settings_from settings_of link_length outer_tag link read_frame
    header_refusal we_are_egress option_at options_from options_of some_key summarized draft_read draft_stops implemented strippable
    kept_options octets_of stripped flag_unsummarized summary_bare extension_read extension_stops area_read area_stops area_sent
    echo_read channel_read silenced return_path reply_inner reply_rest echo_body error_reply echo_reply
    forwarded_rest forwarded onward channel_message alert_to alert_of alerted transit faulted echoed channelled decapsulated routed
    handling handled_with handled part_of switch_named order_good
    value_good nickname_new room_good serial_new entry_known field_refusal with_next described_from described clock_of
    replies_made staying sent_on first_waiting next_after run_from plain_run
    hop_received egress_received entry_octets trace_octets some_edition2 trace_needed campus
computed_in = map (λ (c : Case). c.computed)

-- and the values expected.
abbrev pub expected_in : List Case → List (List ℕ)
expected_in = map (λ (c : Case). c.expected)
