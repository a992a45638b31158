-- No word before the hints has moved.
use Rattle.stores.specs.Store.{Hinted}
use Rattle.stores.proofs.preparing.hint_all.Given as goal

abbrev pub invariant-loop-i : goal.invariant-loop-i
invariant-loop-i l = Hinted l.initial.w l.w
