-- The switch is among the first i or nowhere.
use Rattle.std.proofs.Common.{length}
use Rattle.campus.proofs.StoresLaws.{Seeking}
use Rattle.campus.proofs.switches.Switches.find.Given as goal

abbrev pub invariant-loop-i : goal.invariant-loop-i
invariant-loop-i l = Seeking l.self.words.now l.self.starts.now (length l.self.starts.now) l.nickname l.i
