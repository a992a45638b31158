-- Shifts and masks as sums, quotients and remainders: one law for `|`, `or_add`, and its uses.
use mathlib.Core.Path.{◌≡◌, sym, ap, ◌∙◌}
use Prim.Native.Nat.{ℕ, ◌+◌, ◌*◌, ◌/◌, ◌%◌, ◌^◌, ◌<◌}
use native.Mathlib.Nat.{add-zero}
use lib.Bits.{bit_or, or_shifted}
use lib.Pow.{split}

-- a multiple of 2 ^ k and a number below 2 ^ k
pub or_add : (x k b : ℕ) → x % 2 ^ k ≡ 0 → b < 2 ^ k → bit_or x b ≡ x + b
or_add x k b e h =
    let s : x / 2 ^ k * 2 ^ k ≡ x = sym (add-zero (x / 2 ^ k * 2 ^ k)) ∙ ap (λ (r : ℕ). x / 2 ^ k * 2 ^ k + r) (sym e) ∙ split x k in
    ap (λ (y : ℕ). bit_or y b) (sym s) ∙ or_shifted (x / 2 ^ k) k b h ∙ ap (λ (y : ℕ). y + b) s
