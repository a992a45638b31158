-- A store as the code reads it: one law for each way out, over what the tests and calls before it say. By computation.
use Rattle.std.specs.Prelude.{Result, Ok, Err}
use Rattle.handler.proofs
use proofs.{RouteLaws.received_lent, StageLaws.done_dropped}
use Prim.Native.Nat.{ℕ}
use mathlib.Core.Path.{◌≡◌, refl, sym, ◌∙◌}
use mathlib.Core.List.{List}
use mathlib.Core.Bool.{Bool, true, false, not}
use borrow.Author.Rules.{rules}
use borrow.Author.Tests.{not-true, not-false}
use lib.ListN.{length}
use Rattle.rules.specs as rules
use rules.{Handling.routed}
use Rattle.handler.specs
use specs.declared.answers.Answer.{Answer}
use specs.declared.way.Own.{Own}
use specs.declared.frame.Frame.{Frame}
use rules.declared.Number.{Number}
use specs.{Shapes.dropped_by, Shapes.Owns, Tasks.received_by, Tasks.Receiving, Tasks.Both}
use proofs.TaskLaws.{both_of}
use Rattle.stores.proofs.IndexLaws.{good_whole, step_past, step_up, step_stay, index_hinted, index_searched, for_past, for_other}
use Rattle.stores.specs.Store.{ways_in, store_good, handled_in, Whole}
use Rattle.rules.specs.Answer as A

pub ruleset index_in_laws = (rules, index_hinted, index_searched)

-- the call: a bad store, and a good one
module _ (w clock f out beside : List ℕ) (ok : Bool) (is : ok ≡ store_good w) where
  abbrev answer : A.Handled
  answer = handled_in w clock (length out) (length beside) f

  pub store_bad : not ok ≡ true → (r : Answer) → r ≡ dropped_by 1 → Both answer r out out beside beside
  unfolding handled_in
  store_bad n r e = rw (← is, not-true ok n) (both_of beside (done_dropped 1 refl e))

  module _ (n : not ok ≡ false) where
    pub good_store : Whole w
    good_store = good_whole w (sym is ∙ not-false ok n)

    module _ (own : Own) (o : Owns own (ways_in w)) (received : Result Frame Number) (x : Receiving own clock f (length out) (length beside) received) where
      comes : answer ≡ received_by (ways_in w) received
      unfolding handled_in
      comes = rw (← is, not-false ok n) (x.same (ways_in w) o)

      pub store_early : (n : Number) → received ≡ Err n → (a : Answer) → a ≡ dropped_by (A.number_of n) → Both answer a out out beside beside
      store_early n e a is = rw (comes, e) (both_of beside (done_dropped (A.number_of n) refl is))

      pub store_done : (frame : Frame) → received ≡ Ok frame → (r : Answer) (out2 beside2 : List ℕ)
          → Both (routed (ways_in w) frame.time.now frame.octets.now frame.header) r out out2 beside beside2
          → Both answer r out out2 beside beside2
      store_done frame e r out2 beside2 d = rw (comes, e) d

pub ruleset handle_prepared_laws = (rules, received_lent, good_store, store_bad, store_early, store_done)
