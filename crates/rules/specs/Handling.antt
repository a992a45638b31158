-- "Answers of one handling. .. Order is as listed." Then the whole call with its refusals, and the call for a delivered part.
use Rattle.std.specs.Prelude.{ℕ, ◌+◌, ◌-◌, ◌/◌, ◌%◌, List, [], ◌++◌, Bool, true, not, ◌&&◌, ◌||◌, length, ltb, leb, eqb, if◌then◌else◌, Some, None, Ok, Err}
use Rattle.rules.specs.Octets.{be16, be48, octets16, part, put}
use Rattle.rules.specs.Settings.{Ways, ways_of, settings_of}
use Rattle.rules.specs.Link.{link, ethertype_tag}
use Rattle.rules.specs.Header.{version, reserved, multi, hop_count, header_word, any_rbridge, read_frame}
use Rattle.rules.specs.Header.{inner_start, area_of, inner_of, header_refusal, we_are_egress}
use Rattle.rules.specs.Options.{WellFormed, Faulty}
use Rattle.rules.specs.Extension.{flags_word, critical_alert, non_critical_alert, area_read, area_stops, area_sent}
use Rattle.rules.specs.Answer.{number_of, err_of, Handled, dropped, dropped_at, wrote, wrote_both, delivered}
use Rattle.rules.specs.Channel.{ethertype_channel, ethertype_is_is, all_egress_rbridges, inner_ethertype, body_of}
use Rattle.rules.specs.Channel.{reply_mode, channel_read, silenced, return_path, error_reply, echo_reply}
use Rattle.rules.specs.declared.NextHop.{NextHop}
use Rattle.rules.specs.declared.Header.{Header}
use Rattle.rules.specs.declared.Alert.{Alert}
use Rattle.rules.specs.declared.Alert.TheVariants.{NoAlert, AlertFault, AlertErr, AlertRequest}
use Rattle.rules.specs.declared.ChannelRead.{ChannelRead}
use Rattle.rules.specs.declared.ChannelRead.TheVariants.{Fault, BadErr, ErrorHeard, BadEcho, EchoHeard, EchoRequest}

-- "output buffer under 2,048 octets", "frame over 2,048 octets"
abbrev pub frame_most : ℕ
frame_most = 2048

-- "TRILL header with hop count one less and the new Op-Length, area, inner frame unchanged"
unfoldable pub forwarded_rest : Ways → List ℕ → Header → List ℕ
forwarded_rest S f h =
    let area = area_sent S (area_of f h) in
    octets16 (header_word (version h.word) (reserved h.word) (multi h.word) (length area / 4) (hop_count h.word - 1))
    ++ octets16 h.egress
    ++ octets16 h.ingress
    ++ area
    ++ inner_of f h

unfoldable pub forwarded : Ways → NextHop → List ℕ → Header → List ℕ
forwarded S r f h = link S r ++ forwarded_rest S f h

-- 53 and 25
unfoldable pub faulted : Ways → List ℕ → Header → ℕ → Handled
faulted S f h code =
    if silenced code (inner_of f h) then dropped 25 else
    elim (return_path S h.ingress) [
      | None ↦ dropped 25
      | Some r ↦ wrote 53 (error_reply S r f h code) r.neighbour
    ]

-- 54 and 28: "ours replies only to 2. So 28 is given for any other mode or without a return path, and only then."
unfoldable pub echoed : Ways → List ℕ → List ℕ → Header → Handled
echoed S clock f h =
    if not (eqb (reply_mode (body_of (inner_of f h))) 2) then dropped 28 else
    elim (return_path S h.ingress) [
      | None ↦ dropped 28
      | Some r ↦ wrote 54 (echo_reply S r h clock (body_of (inner_of f h))) r.neighbour
    ]

unfoldable pub channelled : Ways → List ℕ → List ℕ → Header → ChannelRead → Handled
channelled S clock f h (Fault fault) = faulted S f h (err_of fault)
channelled S clock f h BadErr = dropped 26
channelled S clock f h ErrorHeard = dropped 55
channelled S clock f h BadEcho = dropped 27
channelled S clock f h EchoHeard = dropped 56
channelled S clock f h EchoRequest = echoed S clock f h

-- the inner frame's VLAN, and the test of 23
abbrev pub vlan : List ℕ → ℕ
vlan inner = be16 inner 14 % 4096

abbrev pub untagged : List ℕ → Bool
untagged inner = not (eqb (be16 inner 12) ethertype_tag) || eqb (vlan inner) 0 || eqb (vlan inner) 4095

abbrev pub to_all_egress_rbridges : List ℕ → Bool
to_all_egress_rbridges inner = eqb (be48 inner 0) all_egress_rbridges

-- 22 to 24 and 51 to 56
unfoldable pub decapsulated : Ways → List ℕ → List ℕ → Header → Handled
decapsulated S clock f h =
    if ltb (length (inner_of f h)) 18 then dropped 22 else
    if untagged (inner_of f h) then dropped 23 else
    if eqb h.egress any_rbridge && not (to_all_egress_rbridges (inner_of f h)) then dropped 24 else
    if not (to_all_egress_rbridges (inner_of f h)) then delivered 51 (inner_start h) (length (inner_of f h)) else
    if eqb (inner_ethertype (inner_of f h)) ethertype_is_is then delivered 52 (inner_start h) (length (inner_of f h))
    else channelled S clock f h (channel_read (inner_of f h))

-- T-01: "29, a forwarded frame that would pass 2,048 octets, comes just before 50". T-09: "A second output buffer .. takes only a reply
-- made beside 50": what is written there, and its neighbour.
unfoldable pub onward : Ways → NextHop → List ℕ → Header → List ℕ → ℕ → Handled
onward S r f h beside beside_via =
    if ltb frame_most (length (forwarded S r f h)) then dropped 29
    else wrote_both 50 (forwarded S r f h) r.neighbour beside beside_via

-- T-09: "only on a readable inner frame to All-Egress-RBridges with Ethertype 0x8946"; readable: none of 22 and 23
unfoldable pub channel_message : List ℕ → Bool
channel_message inner =
    leb 18 (length inner) && not (untagged inner) && to_all_egress_rbridges inner && eqb (inner_ethertype inner) ethertype_channel

-- "With the critical alert a channel fault or a bad ERR discards it: 53, 25 or 26." "An echo request that we as its egress would give 54 (so
-- not one we would give 20) is answered and also forwarded". "With only the non-critical one these are passed over." "all else is forwarded with no reply"
unfoldable pub alert_to : Bool → Bool → ChannelRead → Alert
alert_to critical answered (Fault fault) = if critical then AlertFault fault else NoAlert
alert_to critical answered BadErr = if critical then AlertErr else NoAlert
alert_to critical answered ErrorHeard = NoAlert
alert_to critical answered BadEcho = NoAlert
alert_to critical answered EchoHeard = NoAlert
alert_to critical answered EchoRequest = if answered then AlertRequest else NoAlert

unfoldable pub alert_of : Ways → List ℕ → Header → Alert
alert_of S f h =
    if S.rfc7179 && (critical_alert (flags_word (area_of f h)) || non_critical_alert (flags_word (area_of f h))) && channel_message (inner_of f h)
    then alert_to (critical_alert (flags_word (area_of f h))) (not (area_stops S true (area_of f h))) (channel_read (inner_of f h))
    else NoAlert

unfoldable pub alerted : Ways → NextHop → List ℕ → List ℕ → Header → Alert → Handled
alerted S r clock f h NoAlert = onward S r f h [] 0
alerted S r clock f h (AlertFault fault) = faulted S f h (err_of fault)
alerted S r clock f h AlertErr = dropped 26
alerted S r clock f h AlertRequest = onward S r f h (echoed S clock f h).octets (echoed S clock f h).via

-- 21; T-09: "Alerts act at transit, after test 21"; then 29 and 50
unfoldable pub transit : Ways → List ℕ → List ℕ → Header → Handled
transit S clock f h = elim (S.hop h.egress) [ None ↦ dropped 21 | Some r ↦ alerted S r clock f h (alert_of S f h) ]

-- 30 to 35 or 38, and 20, then by our role
unfoldable pub routed : Ways → List ℕ → List ℕ → Header → Handled
routed S clock f h =
    elim (area_read S (area_of f h)) [
      | Faulty number place ↦ dropped_at (number_of number) place
      | WellFormed ↦
          if area_stops S (we_are_egress S.nickname h) (area_of f h) then dropped 20 else
          if we_are_egress S.nickname h then decapsulated S clock f h
          else transit S clock f h
    ]

unfoldable pub handling : Ways → List ℕ → List ℕ → Handled
handling S clock f =
    elim (read_frame f) [
      | Err number ↦ dropped (number_of number)
      | Ok h ↦
          if eqb (header_refusal S.mac f h) 0 then routed S clock f h
          else dropped (header_refusal S.mac f h)
    ]

-- T-09: "A second output buffer, minimum 576 octets"
abbrev pub beside_least : ℕ
beside_least = 576

-- 1 for the clock, 2, 37 and 3: T-09: "37, second buffer short, follows 2". `room` and `beside_room` are the lengths of the buffers.
unfoldable pub handled_with : Ways → List ℕ → ℕ → ℕ → List ℕ → Handled
handled_with S clock room beside_room f =
    if not (eqb (length clock) 6) then dropped 1 else
    if ltb room frame_most then dropped 2 else
    if ltb beside_room beside_least then dropped 37 else
    if ltb frame_most (length f) then dropped 3
    else handling S clock f

-- the whole call: settings octets, clock, the lengths of both output buffers, frame
unfoldable pub handled : List ℕ → List ℕ → ℕ → ℕ → List ℕ → Handled
handled settings clock room beside_room f =
    elim (settings_of settings) [ None ↦ dropped 1 | Some S ↦ handled_with (ways_of S) clock room beside_room f ]

-- "Answers 50, 53 and 54 write exactly the frame at the start of the output; later octets stay. All other answers write nothing."
abbrev pub output_after : List ℕ → Handled → List ℕ
output_after out a = put out 0 a.octets

abbrev pub beside_after : List ℕ → Handled → List ℕ
beside_after beside a = put beside 0 a.beside

-- "hands back that part of it, or an empty part if the range doesn't lie within that frame"
unfoldable pub part_of : List ℕ → ℕ → ℕ → List ℕ
part_of f start size = if leb (start + size) (length f) then part f start size else []
