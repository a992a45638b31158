-- Its contract, by one law for each way out.
use Rattle.rules.specs.Handling.{handling}
use Rattle.handler.proofs.RouteLaws.{read_laws as laws}
use Rattle.handler.proofs.handling.read.Goals as goal

pub returns-in_err-header : goal.returns-in_err-header
unfolding handling
returns-in_err-header c = search laws

pub check_header-requires : goal.check_header-requires
check_header-requires c = search laws

pub returns-in_err-check_header : goal.returns-in_err-check_header
unfolding handling
returns-in_err-check_header c = search laws

pub returns : goal.returns
returns c = search laws

pub invariant_of-result : goal.invariant_of-result
invariant_of-result c = search laws
