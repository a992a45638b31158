-- Its contract, by its tests in their order.
use Rattle.handler.proofs.RouteLaws.{receive_laws as laws}
use Rattle.handler.proofs.handling.receive.Goals as goal

pub returns-in_default : goal.returns-in_default
returns-in_default c = let other = c.in_default.ensures.cases in search (laws, other)

pub returns-then-room-lt-OUTPUT_LEAST : goal.returns-then-room-lt-OUTPUT_LEAST
returns-then-room-lt-OUTPUT_LEAST c = search laws

pub returns-then-beside-lt-BESIDE_LEAST : goal.returns-then-beside-lt-BESIDE_LEAST
returns-then-beside-lt-BESIDE_LEAST c = search laws

pub returns-then-octets-gt-FRAME_MOST : goal.returns-then-octets-gt-FRAME_MOST
returns-then-octets-gt-FRAME_MOST c = search laws

pub returns : goal.returns
returns c =
    let whole = c.in-Some.ensures.cases in
    let same = whole.same in
    let long = whole.long in
    search (laws, same, long)
