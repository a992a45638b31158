-- Its contract, by its tests in their order.
use Rattle.reader.specs.Bursts.{stopped}
use Rattle.reader.proofs.CallLaws.{goes_on_laws as laws}
use Rattle.reader.proofs.goes_on.Goals as goal

pub returns-then-reader-lt-WORDS-clause-stops : goal.returns-then-reader-lt-WORDS-clause-stops
unfolding stopped
returns-then-reader-lt-WORDS-clause-stops c = search laws

pub returns-then-reader-ne0-clause-stops : goal.returns-then-reader-ne0-clause-stops
unfolding stopped
returns-then-reader-ne0-clause-stops c = search laws

pub returns-then-early-ne0-clause-stops : goal.returns-then-early-ne0-clause-stops
unfolding stopped
returns-then-early-ne0-clause-stops c = search laws

pub returns-then-gathered-lt-FRAME_MOST-clause-stops : goal.returns-then-gathered-lt-FRAME_MOST-clause-stops
unfolding stopped
returns-then-gathered-lt-FRAME_MOST-clause-stops c = search laws

pub returns-clause-stops : goal.returns-clause-stops
unfolding stopped
returns-clause-stops c = search laws
