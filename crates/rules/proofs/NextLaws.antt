-- What is handled next, by the answer and by the replies that wait: one law for each outcome, by the tests.
use mathlib.Core.Path.{◌≡◌, refl, ap, ◌∙◌}
use mathlib.Core.List.{List, [], ◌∷◌}
use mathlib.Core.Bool.{true, false}
use Prim.Native.Nat.{ℕ}
use lib.ListN.{length}
use specs.{Settings.Settings, Answer.Handled}
use specs.Campus.{Kind, reply, Waiting, writes_reply, replies_made, in_campus, staying, waiting_after, over, next, sent_on, first_waiting, next_after}
use Rattle.rules.proofs.TestLaws.{tests}
use Rattle.rules.specs

-- the replies that a handling makes
module _ (a : Handled) where
  pub made_reply : writes_reply a.number ≡ true → replies_made a ≡ record { towards = a.via; frame = a.octets } ∷ []
  unfolding replies_made
  made_reply e = rw e

  module _ (e : writes_reply a.number ≡ false) where
    pub made_beside : (length a.beside ≡ 0 → ⊥) → replies_made a ≡ record { towards = a.beside_via; frame = a.beside } ∷ []
    unfolding replies_made
    made_beside n = simp (e, tests)

    pub made_nothing : length a.beside ≡ 0 → replies_made a ≡ []
    unfolding replies_made
    made_nothing n = simp (e, tests)

module _ (switches : List Settings) where
  -- those of them that stay in the campus
  pub stays_none : staying switches [] ≡ []
  unfolding staying
  stays_none = refl

  module _ (w : Waiting) where
    pub stays_in : in_campus switches w.towards ≡ true → staying switches (w ∷ []) ≡ w ∷ []
    unfolding staying
    stays_in e = rw e

    pub stays_left : in_campus switches w.towards ≡ false → staying switches (w ∷ []) ≡ []
    unfolding staying
    stays_left e = rw e

  module _ (a : Handled) where
    -- the frame that was forwarded, else the reply that has waited longest, else nothing
    module _ (kind : Kind) (q : List Waiting) where
      pub next_on : sent_on switches a ≡ true → next_after switches kind q a ≡ next a.via kind a.octets (waiting_after switches q a)
      unfolding next_after
      next_on e = rw e

      pub next_waiting : sent_on switches a ≡ false → next_after switches kind q a ≡ first_waiting (waiting_after switches q a)
      unfolding next_after
      next_waiting e = rw e

      module _ (e : sent_on switches a ≡ false) where
        pub next_first : (w : Waiting) (r : List Waiting) → waiting_after switches q a ≡ w ∷ r
            → next_after switches kind q a ≡ next w.towards reply w.frame r
        unfolding first_waiting
        next_first w r z = next_waiting e ∙ ap first_waiting z

        pub next_over : waiting_after switches q a ≡ [] → next_after switches kind q a ≡ over
        unfolding first_waiting
        next_over z = next_waiting e ∙ ap first_waiting z

-- it depends on the campus only by which switches there are
module _ (l m : List Settings) (same : (n : ℕ) → in_campus l n ≡ in_campus m n) where
  stays_alike : (q : List Waiting) → staying l q ≡ staying m q
  unfolding staying
  stays_alike [] = refl
  stays_alike (w ∷ q) = rw (same w.towards, stays_alike q)

  pub next_alike : (kind : Kind) (q : List Waiting) (a : Handled) → next_after l kind q a ≡ next_after m kind q a
  unfolding next_after sent_on
  next_alike kind q a = rw (same a.via, stays_alike (replies_made a))
