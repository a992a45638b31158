-- Its contract, by what was read.
use Rattle.std.proofs.lemmas.Result.{err_from_is_err_and}
use Rattle.campus.proofs.DoneLaws.{run_in_laws as laws}
use Rattle.campus.proofs.run_in.Goals as goal

pub returns-in_err-entry : goal.returns-in_err-entry
returns-in_err-entry c =
    let p = err_from_is_err_and c.from_residual.result c.from_residual.ensures.1 in
    rw (p.1, p.2) (let refused = c.in_err-entry.ensures in search laws)

pub switches-switches-requires : goal.switches-switches-requires
switches-switches-requires c =
    let accepts = c.in_ok-entry.ensures in
    search laws

pub has_edition_2-two-requires : goal.has_edition_2-two-requires
has_edition_2-two-requires c =
    let accepts = c.in_ok-entry.ensures in
    search laws

pub returns-then-trace-needed : goal.returns-then-trace-needed
returns-then-trace-needed c =
    let accepts = c.in_ok-entry.ensures in
    search laws

pub run-count-requires : goal.run-count-requires
run-count-requires c =
    let accepts = c.in_ok-entry.ensures in
    search laws

pub returns : goal.returns
returns c =
    let accepts = c.in_ok-entry.ensures in
    search laws
