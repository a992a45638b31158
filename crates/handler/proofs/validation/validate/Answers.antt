-- Its contract, by one law for each way out.
use Rattle.handler.proofs.ScanLaws.{validate_laws as laws}
use Rattle.handler.proofs.validation.validate.Goals as goal

pub returns-in_default : goal.returns-in_default
returns-in_default c = search laws

pub slice_bounds-opens-count : goal.slice_bounds-opens-count
slice_bounds-opens-count c = search laws

pub slice_bounds-opens-start : goal.slice_bounds-opens-start
slice_bounds-opens-start c = search laws

pub slice_bounds-opens-end : goal.slice_bounds-opens-end
slice_bounds-opens-end c = search laws

pub returns-then-not-opens : goal.returns-then-not-opens
returns-then-not-opens c = search laws

pub scan_from-requires : goal.scan_from-requires
scan_from-requires c = search laws

pub returns-in_err-scan : goal.returns-in_err-scan
returns-in_err-scan c = search laws

pub returns : goal.returns
returns c = let found = c.in_ok-scan.ensures in search laws
