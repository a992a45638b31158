-- Its contract, by what the three tests say.
use Rattle.stores.proofs.WordLaws.{steps_high, steps_middle, steps_low, steps_none, steps_laws as laws}
use Rattle.stores.proofs.preparing.Ranks.steps.Goals as goal

pub returns-then-high : goal.returns-then-high
returns-then-high c =
    steps_high _ _ _ _ _ (search laws) (search laws) c.below-low.result c.below-middle.result c.below-high.result
    (search laws) (search laws) (search laws) (search laws) (search laws)

pub returns-else-high : goal.returns-else-high
returns-else-high c =
    steps_middle _ _ _ _ _ (search laws) (search laws) c.below-low.result c.below-middle.result c.below-high.result
    (search laws) (search laws) (search laws) (search laws) (search laws)

pub returns-then-low : goal.returns-then-low
returns-then-low c =
    steps_low _ _ _ _ _ (search laws) (search laws) c.below-low.result c.below-middle.result c.below-high.result
    (search laws) (search laws) (search laws) (search laws) (search laws)

pub returns-else-low : goal.returns-else-low
returns-else-low c =
    steps_none _ _ _ _ _ (search laws) (search laws) c.below-low.result c.below-middle.result c.below-high.result
    (search laws) (search laws) (search laws) (search laws) (search laws)
