-- Its contract: clock, octets and store are those in the words.
use mathlib.Core.Path.{◌≡◌}
use lib.ListN.{get_or, take}
use borrow.Author.Rules.{rules}
use Rattle.reader.proofs.CallLaws.{gathered_octets}
use Rattle.reader.proofs.CallLaws.{handle_gathered_laws as laws}
use Rattle.reader.proofs.handle_gathered.Goals as goal

pub returns : goal.returns
returns c =
    let e : c.unwrap_or-frame.result.now ≡ take (get_or c.args.reader.now 1 0) c.args.gathered.now = search (rules, gathered_octets) in
    search (laws, e)
