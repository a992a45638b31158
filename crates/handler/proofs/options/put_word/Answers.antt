-- Its contract, by its four octets.
use Rattle.handler.proofs.Walks.{put_word_laws as laws}
use Rattle.handler.proofs.options.put_word.Goals as goal

pub returns : goal.returns
returns c = search laws
