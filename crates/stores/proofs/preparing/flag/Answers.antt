-- Its contract, by one law for each way out.
use Rattle.stores.proofs.PrepareLaws.{flag_laws as laws}
use Rattle.stores.proofs.preparing.flag.Goals as goal

pub returns-in_err-check_flag : goal.returns-in_err-check_flag
returns-in_err-check_flag c = search laws

pub returns-then-w-lt4 : goal.returns-then-w-lt4
returns-then-w-lt4 c = search laws

pub returns : goal.returns
returns c = search laws
