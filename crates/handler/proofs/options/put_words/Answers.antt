-- Its contract. The invariant: `out` has the first i octets of `s` in it from `to` on, which are whole words.
use Rattle.handler.proofs.Walks.{put_words_laws as laws}
use Rattle.handler.proofs.options.put_words.Goals as goal

pub loop-i-init : goal.loop-i-init
loop-i-init c = search laws

pub loop-i-preserved : goal.loop-i-preserved
loop-i-preserved c = search laws
