-- Its contract, by arithmetic.
use borrow.Author.Rules.{rules}
use Rattle.handler.specs.Ranks.{slot_by}
use Rattle.handler.proofs.validation.slot_of.Goals as goal

pub returns : goal.returns
unfolding slot_by
returns c = search rules
