-- Its contract: the mask and the definition agree at each of the 128 Lengths, by one computed test.
use Rattle.std.proofs.Common.{◌≡◌, ℕ, ◌+◌, ◌<◌, refl, bit_and, eqb, eqb-true, rules}
use Rattle.rules.specs.Options.{option_size}
use Rattle.rules.proofs.TestLaws.{each_below}
use Rattle.handler.proofs.options.option_size.Goals as goal

masked : (n : ℕ) → n < 128 → bit_and (n + 2 + 3) 0xFC ≡ option_size n
masked n h = eqb-true (bit_and (n + 2 + 3) 0xFC) (option_size n) (each_below 128 (λ n. eqb (bit_and (n + 2 + 3) 0xFC) (option_size n)) refl n h)

pub returns : goal.returns
returns c = search (rules, masked)
