-- Its contract: 73,741 octets are room for every text.
use borrow.Author.Rules.{rules}
use Rattle.text.proofs.TextLaws.{text_whole}
use Rattle.staffripple.proofs.text_of.Goals as goal

ruleset laws = (rules, text_whole)

pub returns : goal.returns
returns c = search laws
