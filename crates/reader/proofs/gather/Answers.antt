-- Its contract, by one law for each way out.
use borrow.Author.Rules.{rules}
use Rattle.reader.proofs.CallLaws.{burst_stops, burst_copied}
use Rattle.reader.proofs.CallLaws.{burst_laws as laws}
use Rattle.reader.proofs.gather.Goals as goal

pub returns-in_err-goes_on : goal.returns-in_err-goes_on
returns-in_err-goes_on c =
    burst_stops _ _ _ c.goes_on.result c.goes_on.ensures.stops c.in_err-goes_on.field-0.0 c.in_err-goes_on.was c.from_residual.result (search rules)

pub returns-then-end-gt-FRAME_MOST : goal.returns-then-end-gt-FRAME_MOST
returns-then-end-gt-FRAME_MOST c = search laws

pub returns : goal.returns
returns c =
    burst_copied _ _ _ c.goes_on.result c.goes_on.ensures.stops c.in_ok-goes_on.field-0 c.in_ok-goes_on.was c.saturating_add-end.result
    c.saturating_add-end.ensures c.if-end-gt-FRAME_MOST.false c.copy.new.out c.copy.result c.copy.ensures
