-- "TRILL header, 6 octets: the first 16 bits split into V 2, R 2, M 1, Op-Length 5, Hop Count 6, high bits first;
-- then egress nickname, ingress nickname." With the answers that the headers decide, in their order.
use Rattle.std.specs.Prelude.{ℕ, ◌+◌, ◌*◌, ◌/◌, ◌%◌, List, Bool, not, ◌||◌, length, drop, ltb, leb, eqb, if◌then◌else◌, Result, Ok, Err}
use Rattle.rules.specs.Octets.{be16, be48, part}
use Rattle.rules.specs.Link.{link_length, link_ethertype, ethertype_trill}
use Rattle.rules.specs.declared.Header.{Header}
use Rattle.rules.specs.declared.Number.{Number}
use Rattle.rules.specs.declared.Number.TheVariants.{FrameShort, NotTrill}

abbrev pub version : ℕ → ℕ
version w = w / 16384 % 4

abbrev pub reserved : ℕ → ℕ
reserved w = w / 4096 % 4

abbrev pub multi : ℕ → ℕ
multi w = w / 2048 % 2

abbrev pub op_length : ℕ → ℕ
op_length w = w / 64 % 32

abbrev pub hop_count : ℕ → ℕ
hop_count w = w % 64

abbrev pub header_word : ℕ → ℕ → ℕ → ℕ → ℕ → ℕ
header_word v r m op hop = v * 16384 + r * 4096 + m * 2048 + op * 64 + hop

-- RFC 7178: Any-RBridge; "Nicknames 0 and 0xFFC0 to 0xFFFF are no switch's own."
abbrev pub any_rbridge : ℕ
any_rbridge = 0xFFC0

-- 10, 11 and 10 again, or the header
unfoldable pub read_frame : List ℕ → Result Header Number
read_frame f =
    if ltb (length f) 14 then Err FrameShort else
    if ltb (length f) (link_length f) then Err FrameShort else
    if not (eqb (link_ethertype f) ethertype_trill) then Err NotTrill else
    if ltb (length f) (link_length f + 6) then Err FrameShort
    else
    Ok
    (record { place = link_length f; word = be16 f (link_length f); egress = be16 f (link_length f + 2); ingress = be16 f (link_length f + 4) })

-- where the options area and the inner frame begin
abbrev pub area_start : Header → ℕ
area_start h = h.place + 6

abbrev pub inner_start : Header → ℕ
inner_start h = area_start h + 4 * op_length h.word

-- "Options area of 4 × Op-Length octets, then the inner frame"
abbrev pub area_of : List ℕ → Header → List ℕ
area_of f h = part f (area_start h) (4 * op_length h.word)

abbrev pub inner_of : List ℕ → Header → List ℕ
inner_of f h = drop (inner_start h) f

-- 12 to 18, or 0 where none is given; `mac` is our own
unfoldable pub header_refusal : ℕ → List ℕ → Header → ℕ
header_refusal mac f h =
    if not (eqb (be48 f 0) mac) then 12 else
    if not (eqb (version h.word) 0) then 13 else
    if eqb (multi h.word) 1 then 14 else
    if eqb h.ingress 0 || leb 0xFFC0 h.ingress then 15 else
    if eqb h.egress 0 || ltb 0xFFC0 h.egress then 16 else
    if eqb (hop_count h.word) 0 then 17 else
    if ltb (length f) (inner_start h) then 18
    else 0

-- "We are the egress when the egress nickname is our own or Any-RBridge."
unfoldable pub we_are_egress : ℕ → Header → Bool
we_are_egress nickname h = eqb h.egress nickname || eqb h.egress any_rbridge
