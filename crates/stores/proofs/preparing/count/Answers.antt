-- Its contract, by its tests in their order.
use Rattle.stores.specs.Extend.{room_in, count_by}
use Rattle.octets.proofs.Cases.{test_laws as laws}
use Rattle.stores.proofs.preparing.count.Goals as goal

pub returns-then-w-lt4 : goal.returns-then-w-lt4
unfolding count_by room_in
returns-then-w-lt4 c = search laws

pub returns-then-w-ge64 : goal.returns-then-w-ge64
unfolding count_by room_in
returns-then-w-ge64 c = search laws

pub returns-then-w-n : goal.returns-then-w-n
unfolding count_by room_in
returns-then-w-n c = search laws

pub returns : goal.returns
unfolding count_by room_in
returns c = search laws
