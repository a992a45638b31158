-- Its contract, by arithmetic.
use lib.Bits.{and_mask}
use Rattle.handler.specs.Ranks.{mix_of}
use Rattle.handler.proofs.validation.mix.Goals as goal

pub returns : goal.returns
unfolding mix_of
returns c = rw (and_mask c.args.rank 32)
