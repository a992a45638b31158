-- Its contract, by one law for each way out.
use Prim.Native.Nat.{◌≤◌}
use lib.ListN.{length}
use borrow.Author.Rules.{rules}
use Rattle.reader.proofs.CallLaws.{early_words}
use Rattle.reader.proofs.CallLaws.{mark_laws as laws}
use Rattle.reader.proofs.trill_reader_mark.Goals as goal

pub returns-in-Ok : goal.returns-in-Ok
returns-in-Ok c = search laws

pub returns-in-Err-Refused : goal.returns-in-Err-Refused
returns-in-Err-Refused c = search laws

pub bounds-reader-3-in-Err-Early : goal.bounds-reader-3-in-Err-Early
bounds-reader-3-in-Err-Early c =
    let h : 168 ≤ length c.args.reader.now = early_words c.args.reader.now c.args.gathered.now c.goes_on.result c.goes_on.ensures.stops c.in-Err-Early.field-0 c.in-Err-Early.number c.in-Err-Early.is c.in-Err-Early.field-0-is in
    search rules

pub returns-in-Err-Early : goal.returns-in-Err-Early
returns-in-Err-Early c = search laws
