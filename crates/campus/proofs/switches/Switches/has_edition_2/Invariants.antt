-- The later switches have edition 1.
use Rattle.std.proofs.Common.{length}
use Rattle.campus.proofs.StoresLaws.{Editions}
use Rattle.campus.proofs.switches.Switches.has_edition_2.Given as goal

abbrev pub invariant-loop-i : goal.invariant-loop-i
invariant-loop-i l = Editions l.self.words.now l.self.starts.now (length l.self.starts.now) l.i
