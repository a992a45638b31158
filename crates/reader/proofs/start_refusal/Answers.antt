-- Its contract, by its tests in their order.
use Rattle.reader.proofs.CallLaws.{start_refusal_laws as laws}
use Rattle.reader.proofs.start_refusal.Goals as goal

pub returns-then-bad : goal.returns-then-bad
returns-then-bad c = search laws

pub returns-then-clock-ne6 : goal.returns-then-clock-ne6
returns-then-clock-ne6 c = search laws

pub returns-then-room-lt-OUTPUT_LEAST : goal.returns-then-room-lt-OUTPUT_LEAST
returns-then-room-lt-OUTPUT_LEAST c = search laws

pub returns-then-beside_room-lt-BESIDE_LEAST : goal.returns-then-beside_room-lt-BESIDE_LEAST
returns-then-beside_room-lt-BESIDE_LEAST c = search laws

pub returns : goal.returns
returns c = search laws
