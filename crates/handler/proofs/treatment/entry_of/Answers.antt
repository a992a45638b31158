-- Its contract: the table agrees with the flag definitions, by one test computed over its 512 keys.
use borrow.Author.Rules.{rules}
use Rattle.rules.specs.Options.{implemented, strippable}
use Rattle.handler.proofs.TreatmentLaws.{table_treats}
use Rattle.handler.proofs.treatment.entry_of.Goals as goal

pub returns : goal.returns
unfolding implemented strippable
returns c = search (rules, table_treats)
