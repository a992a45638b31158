-- Its contract, by whether there is a switch.
use Rattle.campus.proofs.StoresLaws.{end_of_laws as laws}
use Rattle.campus.proofs.refusals.Draft.end.Goals as goal

pub returns-then-self-eq0 : goal.returns-then-self-eq0
returns-then-self-eq0 c = search laws

pub bounds-self-last : goal.bounds-self-last
bounds-self-last c = search laws

pub overflow_mul-result : goal.overflow_mul-result
overflow_mul-result c = search laws

pub overflow_add-result-3 : goal.overflow_add-result-3
overflow_add-result-3 c = search laws

pub returns : goal.returns
returns c = search laws
