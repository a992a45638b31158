-- Its contract, by one law for each need.
use Rattle.campus.proofs.DoneLaws.{campus_run_laws as laws}
use Rattle.campus.proofs.run_sized.Goals as goal

pub returns-then-trace-lt-TRACE_LEAST : goal.returns-then-trace-lt-TRACE_LEAST
returns-then-trace-lt-TRACE_LEAST c = search laws
