-- Its contract, by arithmetic.
use Prim.Native.Nat.{◌/◌}
use native.Mathlib.Omega.{arith}
use lib.Bits.{and_mask}
use Rattle.handler.specs.Ranks.{mark_by}
use Rattle.handler.proofs.validation.mark_of.Goals as goal

pub returns : goal.returns
unfolding mark_by
returns c = omega (arith, and_mask (c.args.mixed / 65536) 7)
