-- Its contract. The invariant: what was read is validated, and folded to the record that rules and the flags.
use Rattle.std.proofs.Common.{◌-◌, length}
use Rattle.handler.proofs.ScanLaws.{Scanning}
use Rattle.handler.proofs.validation.scan_from.Given as goal

abbrev pub invariant-loop-at : goal.invariant-loop-at
invariant-loop-at l = Scanning l.s l.from l.d l.seen l.n l.best l.flags l.at

abbrev pub decreases-loop-at : goal.decreases-loop-at
decreases-loop-at l = length l.s - l.at
