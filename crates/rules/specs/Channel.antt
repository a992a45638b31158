-- "Channel messages" (RFC 7178; source document 004 for the echo body): what a message is found to be, and the two replies.
use Rattle.std.specs.Prelude.{ℕ, ◌+◌, ◌-◌, ◌*◌, ◌/◌, ◌%◌, List, [], ◌∷◌, ◌++◌, Bool, not, ◌&&◌, ◌||◌, length, take, drop, ltb, eqb, if◌then◌else◌, Option, None}
use Rattle.rules.specs.Octets.{octet, be16, octets16, octets48, part}
use Rattle.rules.specs.Settings.{Ways}
use Rattle.rules.specs.Link.{link, ethertype_tag}
use Rattle.rules.specs.declared.NextHop.{NextHop}
use Rattle.rules.specs.declared.Header.{Header}
use Rattle.rules.specs.declared.ChannelFault.TheVariants.{HeaderShort, OtherEthertype, OtherVersion, WrongNative, OtherProtocol}
use Rattle.rules.specs.declared.ChannelRead.{ChannelRead}
use Rattle.rules.specs.declared.ChannelRead.TheVariants.{Fault, BadErr, ErrorHeard, BadEcho, EchoHeard, EchoRequest}

-- RFC 7178
abbrev pub ethertype_channel : ℕ
ethertype_channel = 0x8946

-- RFC 6325: L2-IS-IS
abbrev pub ethertype_is_is : ℕ
ethertype_is_is = 0x22F4

-- "All-Egress-RBridges is 01-80-C2-00-00-42."
abbrev pub all_egress_rbridges : ℕ
all_egress_rbridges = 0x0180C2000042

-- RFC 7178: Channel Error; "Echo is our private protocol 0xFF8"
abbrev pub protocol_error : ℕ
protocol_error = 0x001

abbrev pub protocol_echo : ℕ
protocol_echo = 0xFF8

-- the inner frame: "DA 6, SA 6, 0x8100, two octets whose low 12 bits are the VLAN, Ethertype, rest"
abbrev pub inner_ethertype : List ℕ → ℕ
inner_ethertype inner = be16 inner 16

-- "After Ethertype 0x8946: CHV 4, protocol 12, flags 12 (SL, MH, NA first), ERR 4."
abbrev pub chv : List ℕ → ℕ
chv inner = be16 inner 18 / 4096 % 16

abbrev pub protocol : List ℕ → ℕ
protocol inner = be16 inner 18 % 4096

abbrev pub sl : List ℕ → ℕ
sl inner = be16 inner 20 / 32768 % 2

abbrev pub na : List ℕ → ℕ
na inner = be16 inner 20 / 8192 % 2

abbrev pub err : List ℕ → ℕ
err inner = be16 inner 20 % 16

-- the octets after the channel header
abbrev pub body_of : List ℕ → List ℕ
body_of inner = drop 22 inner

-- "Body: SPID 4 and sequence 28 bits, reply mode 1 octet, flags 1, time sent 6, time received 6, then up to 512 octets."
abbrev pub spid : List ℕ → ℕ
spid body = octet body 0 / 16 % 16

abbrev pub reply_mode : List ℕ → ℕ
reply_mode body = octet body 4

abbrev pub spid_request : ℕ
spid_request = 3

abbrev pub spid_reply : ℕ
spid_reply = 4

-- 27, 56 and 54 or 28: "echo body under 18 or over 530 octets, or SPID neither 3 nor 4"
unfoldable pub echo_read : List ℕ → ChannelRead
echo_read body =
    if ltb (length body) 18 || ltb 530 (length body) then BadEcho else
    if not (eqb (spid body) spid_request) && not (eqb (spid body) spid_reply) then BadEcho else
    if eqb (spid body) spid_reply then EchoHeard
    else EchoRequest

-- "Faults, first one counts", then 26, 55 and the echo
unfoldable pub channel_read : List ℕ → ChannelRead
channel_read inner =
    if not (eqb (inner_ethertype inner) ethertype_channel) && not (eqb (inner_ethertype inner) ethertype_is_is) then Fault OtherEthertype else
    if ltb (length inner) 22 then Fault HeaderShort else
    if not (eqb (chv inner) 0) then Fault OtherVersion else
    if eqb (na inner) 1 then Fault WrongNative else
    if not (eqb (protocol inner) protocol_error) && not (eqb (protocol inner) protocol_echo) then Fault OtherProtocol else
    if not (eqb (protocol inner) protocol_error) && not (eqb (err inner) 0) then BadErr else
    if eqb (protocol inner) protocol_error then ErrorHeard
    else echo_read (body_of inner)

-- "nor, for codes 4 and 5, if SL is 1, the protocol is 0x001 or ERR isn't 0"
unfoldable pub silenced : ℕ → List ℕ → Bool
silenced code inner =
    (eqb code 4 || eqb code 5)
    && (eqb (sl inner) 1 || eqb (protocol inner) protocol_error || not (eqb (err inner) 0))

-- "No return path: the ingress is our own nickname or has no next hop."
unfoldable pub return_path : Ways → ℕ → Option NextHop
return_path S ingress = if eqb ingress S.nickname then None else S.hop ingress

-- "Each reply: .. All-Egress-RBridges, own MAC, 0x8100, 0x0001, 0x8946, protocol word, flags and ERR word 0xC000 plus the code,
-- body."
unfoldable pub reply_inner : Ways → ℕ → ℕ → List ℕ → List ℕ
reply_inner S number code body =
    octets48 all_egress_rbridges
    ++ octets48 S.mac
    ++ octets16 ethertype_tag
    ++ octets16 0x0001
    ++ octets16 ethertype_channel
    ++ octets16 number
    ++ octets16 (0xC000 + code)
    ++ body

-- "first TRILL word 0x003F, egress the old ingress, ingress our nickname", and the inner frame
unfoldable pub reply_rest : Ways → ℕ → ℕ → ℕ → List ℕ → List ℕ
reply_rest S ingress number code body =
    octets16 0x003F ++ octets16 ingress ++ octets16 S.nickname ++ reply_inner S number code body

-- "An error's body is the received frame from its TRILL Ethertype on, at most 128 octets (house)."
abbrev pub error_body : List ℕ → Header → List ℕ
error_body f h = take 128 (drop (h.place - 2) f)

-- "The reply copies the body, sets SPID 4 and puts the clock in time received."
unfoldable pub echo_body : List ℕ → List ℕ → List ℕ
echo_body body clock = ((spid_reply * 16 + octet body 0 % 16) ∷ []) ++ part body 1 11 ++ clock ++ drop 18 body

unfoldable pub error_reply : Ways → NextHop → List ℕ → Header → ℕ → List ℕ
error_reply S r f h code = link S r ++ reply_rest S h.ingress protocol_error code (error_body f h)

unfoldable pub echo_reply : Ways → NextHop → Header → List ℕ → List ℕ → List ℕ
echo_reply S r h clock body = link S r ++ reply_rest S h.ingress protocol_echo 0 (echo_body body clock)
