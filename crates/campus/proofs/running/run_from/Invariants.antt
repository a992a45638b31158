-- The states so far are traced, and the run from here, with the replies that wait, is the rest of the whole.
use Rattle.campus.proofs.RunLaws.{RunSoFar}
use Rattle.campus.proofs.running.run_from.Given as goal

abbrev pub invariant-loop-k : goal.invariant-loop-k
invariant-loop-k l =
    RunSoFar l.switches l.first l.clock l.frame l.initial.waiting l.initial.trace l.waiting l.trace l.frames.current.now l.at l.k
