-- What is left of a handling once a frame is received, and once its area is read: an answer, or what a next hop is asked for.
use Rattle.std.specs.Prelude.{ℕ, ◌≤◌, ◌≡◌, List, [], Bool, true, false, not, ◌&&◌, ◌||◌, length, take, if◌then◌else◌, Some, None, Result, Ok, Err}
use Rattle.rules.specs.Octets.{put}
use Rattle.rules.specs.Settings.{Ways}
use Rattle.rules.specs.Header.{area_of, inner_of, we_are_egress}
use Rattle.rules.specs.Options as O
use Rattle.rules.specs.Options.{draft_read, draft_stops}
use Rattle.rules.specs.Extension.{flags_word, critical_alert, non_critical_alert, extension_read, extension_stops}
use Rattle.rules.specs.Channel.{body_of, channel_read}
use Rattle.rules.specs.Handling.{onward, channel_message, alert_to, alerted, channelled, decapsulated, routed, handling, handled_with}
use Rattle.rules.specs.Answer as A
use Rattle.rules.specs.declared.NextHop.{NextHop}
use Rattle.rules.specs.declared.Header.{Header}
use Rattle.rules.specs.declared.ChannelRead.TheVariants as C
use Rattle.rules.specs.declared.ChannelRead.TheVariants.{EchoRequest}
use Rattle.rules.specs.declared.Number.{Number}
use Rattle.rules.specs.declared.Number.TheVariants.{NoErrorReply, BadErr}
use Rattle.rules.specs.declared.Alert.{Alert}
use Rattle.rules.specs.declared.Alert.TheVariants.{NoAlert, AlertFault, AlertErr, AlertRequest}
use Rattle.handler.specs.declared.answers.Answer.{Answer}
use Rattle.handler.specs.declared.way.Own.{Own}
use Rattle.handler.specs.declared.frame.Frame.{Frame}
use Rattle.handler.specs.declared.options.Cursor.{Cursor}
use Rattle.handler.specs.declared.options.AreaFault.{AreaFault}
use Rattle.handler.specs.declared.handling.Local.{Local}
use Rattle.handler.specs.declared.handling.Local.TheVariants.{Dropped, Answered, Message}
use Rattle.handler.specs.declared.handling.Task.{Task}
use Rattle.handler.specs.Shapes.{answer_of, Owns, area_read_of, sent_of, Done}

-- the area by the edition
abbrev pub area_read_by : Bool → List ℕ → O.AreaRead
area_read_by rfc7179 area = if rfc7179 then extension_read area else draft_read area

-- an area as it is sent put aside, in so many octets
pub record PutAside (sent kept : List ℕ) (size : ℕ) : Type 0 where
  pub wide : length kept ≡ 124
  pub few : size ≤ 124
  pub stands : sent ≡ take size kept

pub record ReadBy (rfc7179 strip : Bool) (area kept : List ℕ) (r : Result Cursor AreaFault) : Type 0 where
  pub read : area_read_of r ≡ area_read_by rfc7179 area
  pub aside : (c : Cursor) → r ≡ Ok c → PutAside (sent_of (strip && not rfc7179) area) kept c.to

abbrev pub stops_by : Bool → Bool → List ℕ → Bool
stops_by rfc7179 egress area = if rfc7179 then extension_stops egress (flags_word area) else draft_stops egress area

unfoldable pub alert_by : Bool → List ℕ → List ℕ → Alert
alert_by rfc7179 area inner =
    if rfc7179 && (critical_alert (flags_word area) || non_critical_alert (flags_word area)) && channel_message inner
    then alert_to (critical_alert (flags_word area)) (not (stops_by rfc7179 true area)) (channel_read inner)
    else NoAlert

-- transit, with an alert
unfoldable pub transit_at : Ways → List ℕ → List ℕ → Header → Alert → A.Handled
transit_at S clock f h alert = elim (S.hop h.egress) [ None ↦ A.dropped 21 | Some r ↦ alerted S r clock f h alert ]

-- a channel message to us
abbrev pub messaged : Ways → List ℕ → List ℕ → Header → A.Handled
messaged S clock f h = channelled S clock f h (channel_read (inner_of f h))

-- what is not forwarded, and what a task comes to at a switch
abbrev pub local_at : Ways → List ℕ → List ℕ → Header → Local → A.Handled
local_at S clock f h (Dropped number) = A.dropped (A.number_of number)
local_at S clock f h (Answered number start size) = A.delivered (A.number_of number) start size
local_at S clock f h Message = messaged S clock f h

abbrev pub done_at : Ways → List ℕ → List ℕ → Header → Result Task AreaFault → A.Handled
done_at S clock f h (Err e) = A.dropped_at (A.number_of e.number) e.place
done_at S clock f h (Ok t) = transit_at S clock f h t.alert

-- transit without what is replied to an alert: a fault is dropped while no reply is made
abbrev pub alert_refusal : Alert → Result (Unit {0}) Number
alert_refusal NoAlert = Ok Prim.tt
alert_refusal (AlertFault fault) = Err NoErrorReply
alert_refusal AlertErr = Err BadErr
alert_refusal AlertRequest = Ok Prim.tt

abbrev pub unless_refused : Result (Unit {0}) Number → A.Handled → A.Handled
unless_refused (Err n) done = A.dropped (A.number_of n)
unless_refused (Ok passed) done = done

abbrev pub alert_quiet : Ways → NextHop → List ℕ → Header → Alert → A.Handled
alert_quiet T r f h alert = unless_refused (alert_refusal alert) (onward T r f h [] 0)

unfoldable pub transit_quiet : Ways → List ℕ → Header → Alert → A.Handled
transit_quiet T f h alert = elim (T.hop h.egress) [ None ↦ A.dropped 21 | Some r ↦ alert_quiet T r f h alert ]

-- the one destination that it asks for by itself, and whether an alert asks for the ingress too
abbrev pub wanted_by : ℕ → Header → ℕ
wanted_by nickname h = if we_are_egress nickname h then h.ingress else h.egress

abbrev pub asked_by : ℕ → Result Frame Number → ℕ
asked_by nickname (Err n) = 0
asked_by nickname (Ok frame) = wanted_by nickname frame.header

abbrev pub asks_back : Alert → Bool
asks_back NoAlert = false
asks_back (AlertFault fault) = true
asks_back AlertErr = false
asks_back AlertRequest = true

-- what is known of the frame
abbrev pub EchoIn : List ℕ → Header → Type 0
EchoIn f h = (18 ≤ length (body_of (inner_of f h))) × (length (body_of (inner_of f h)) ≤ 530)

abbrev pub Answerable : List ℕ → Header → Alert → Type 0
Answerable f h NoAlert = Unit {0}
Answerable f h (AlertFault fault) = channel_read (inner_of f h) ≡ C.Fault fault
Answerable f h AlertErr = Unit {0}
Answerable f h AlertRequest = channel_read (inner_of f h) ≡ EchoRequest

-- the inner frame at the egress
abbrev pub Ends : Local → Type 0
Ends (Dropped number) = Unit {0}
Ends (Answered number start size) = (start ≤ 2048) × (size ≤ 2048)
Ends Message = Unit {0}

pub record Comes (f : List ℕ) (h : Header) (local : Local) : Type 0 where
  pub same : (S : Ways) (clock : List ℕ) → decapsulated S clock f h ≡ local_at S clock f h local
  pub ends : Ends local

-- what is known of a task
abbrev pub Left : List ℕ → Header → Result Task AreaFault → Type 0
Left f h (Err e) = e.place ≤ 2048
Left f h (Ok t) = Answerable f h t.alert

-- how many octets it sends of its area, and that they are put aside
abbrev pub Sized : ℕ → Result Task AreaFault → Type 0
Sized size (Err e) = Unit {0}
Sized size (Ok t) = t.size ≡ size

abbrev pub Aside : Bool → Bool → List ℕ → Header → List ℕ → Result Task AreaFault → Type 0
Aside rfc7179 strip f h kept (Err e) = Unit {0}
Aside rfc7179 strip f h kept (Ok t) = PutAside (sent_of (strip && not rfc7179) (area_of f h)) kept t.size

-- a frame with an area comes to a task, at every switch of an edition that is not its egress: once the area is read, and as a whole
pub record RoutesRead (rfc7179 : Bool) (size : ℕ) (f : List ℕ) (h : Header) (t : Result Task AreaFault) : Type 0 where
  pub same : (S : Ways) (clock : List ℕ) → we_are_egress S.nickname h ≡ false → rfc7179 ≡ S.rfc7179 → routed S clock f h ≡ done_at S clock f h t
  pub left : Left f h t
  pub sized : Sized size t

pub record Routes (rfc7179 strip : Bool) (f : List ℕ) (h : Header) (kept : List ℕ) (t : Result Task AreaFault) : Type 0 where
  pub same : (S : Ways) (clock : List ℕ) → we_are_egress S.nickname h ≡ false → rfc7179 ≡ S.rfc7179 → routed S clock f h ≡ done_at S clock f h t
  pub left : Left f h t
  pub aside : Aside rfc7179 strip f h kept t

-- and at one that is its egress, to an answer with nothing to forward
pub record Arrives (rfc7179 : Bool) (f : List ℕ) (h : Header) (local : Local) : Type 0 where
  pub same : (S : Ways) (clock : List ℕ) → we_are_egress S.nickname h ≡ true → rfc7179 ≡ S.rfc7179 → routed S clock f h ≡ local_at S clock f h local
  pub ends : Ends local

-- a frame as received, at every switch of a nickname and MAC
abbrev pub received_by : Ways → Result Frame Number → A.Handled
received_by S (Err n) = A.dropped (A.number_of n)
received_by S (Ok frame) = routed S frame.time.now frame.octets.now frame.header

pub record Receives (own : Own) (clock f : List ℕ) (r : Result Frame Number) : Type 0 where
  pub same : (S : Ways) → Owns own S → handling S clock f ≡ received_by S r

-- and with the clock and the buffers that are lent
abbrev pub Lent : ℕ → ℕ → Result Frame Number → Type 0
Lent room beside_room (Err n) = Unit {0}
Lent room beside_room (Ok frame) = (2048 ≤ room) × (576 ≤ beside_room)

pub record Receiving (own : Own) (clock f : List ℕ) (room beside_room : ℕ) (r : Result Frame Number) : Type 0 where
  pub same : (S : Ways) → Owns own S → handled_with S clock room beside_room f ≡ received_by S r
  pub lent : Lent room beside_room r

-- an answer, and both buffers after it
pub record Both (a : A.Handled) (r : Answer) (out out' beside beside' : List ℕ) : Type 0 where
  pub answer : r ≡ answer_of a
  pub after : out' ≡ put out 0 a.octets
  pub after_beside : beside' ≡ put beside 0 a.beside

-- what is replied to an alert makes of the answer without it the one with it
pub record Replies (S : Ways) (clock f : List ℕ) (h : Header) (alert : Alert) (a r : Answer) (out out' beside beside' : List ℕ) : Type 0 where
  pub over : (before : List ℕ) → Done (transit_quiet S f h alert) a before out → Both (transit_at S clock f h alert) r before out' beside beside'
