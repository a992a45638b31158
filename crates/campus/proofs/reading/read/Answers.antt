-- Its contract, by the invariant that the words stand for the switches read, and the rest decides as all do.
use Rattle.std.proofs.lemmas.Result.{err_from_is_err_and}
use borrow.Author.Rules.{rules}
use Rattle.rules.proofs.Taken.{taken}
use Rattle.campus.proofs.ReadLaws.{done_behind, read_laws as laws}
use Rattle.campus.proofs.reading.read.Goals as goal

pub returns-then-s-gt-FILE_MOST : goal.returns-then-s-gt-FILE_MOST
returns-then-s-gt-FILE_MOST c = search laws

pub loop-at-init : goal.loop-at-init
loop-at-init c = search laws

pub returns-in_default : goal.returns-in_default
returns-in_default c = search laws

pub slice_bounds-take-count : goal.slice_bounds-take-count
slice_bounds-take-count c = search laws

pub slice_bounds-take-start : goal.slice_bounds-take-start
slice_bounds-take-start c = search laws

pub slice_bounds-take-end : goal.slice_bounds-take-end
slice_bounds-take-end c = search laws

pub take-requires : goal.take-requires
take-requires c = search laws

pub returns-in_err-take : goal.returns-in_err-take
returns-in_err-take c =
    let p = err_from_is_err_and c.from_residual.result c.from_residual.ensures.1 in
    rw (p.1, p.2) (let took = c.in_err-take.ensures.took in search laws)

pub returns-in_err-end_at : goal.returns-in_err-end_at
returns-in_err-end_at c =
    let p = err_from_is_err_and c.from_residual-in_err-end_at.result c.from_residual-in_err-end_at.ensures.1 in
    rw (p.1, p.2)
    (let took = c.in_ok-take.ensures.took in
    let refused = c.in_err-end_at.ensures in
    search (rules, taken, done_behind))

pub returns-then-tag-eq5 : goal.returns-then-tag-eq5
returns-then-tag-eq5 c =
    let took = c.in_ok-take.ensures.took in
    let end = c.in_ok-end_at.ensures in
    search laws

pub clocked-draft-requires : goal.clocked-draft-requires
clocked-draft-requires c = search laws

pub loop-at-smaller : goal.loop-at-smaller
loop-at-smaller c = search laws

pub loop-at-preserved : goal.loop-at-preserved
loop-at-preserved c =
    let took = c.in_ok-take.ensures.took in
    search laws

pub returns : goal.returns
returns c = search laws
