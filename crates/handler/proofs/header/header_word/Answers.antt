-- Its contract, by `|` of disjoint bits as a sum.
use mathlib.Core.Path.{◌≡◌}
use Prim.Native.Nat.{ℕ, ◌+◌, ◌*◌, ◌%◌, ◌<◌}
use native.Mathlib.Omega.{arith}
use lib.Bits.{bit_or}
use Rattle.octets.proofs.Bits.{or_add}
use Rattle.handler.proofs.header.header_word.Goals as goal

word-or : (v r m op hop : ℕ) → v < 4 → r < 4 → m < 2 → op < 32 → hop < 64
    → bit_or (bit_or (bit_or (bit_or (v * 16384 % 65536) (r * 4096 % 65536)) (m * 2048 % 65536)) (op * 64 % 65536)) hop
    ≡ v * 16384 + r * 4096 + m * 2048 + op * 64 + hop
word-or v r m op hop few_v few_r few_m few_op few_hop =
    let a = v * 16384 % 65536 in
    let b = r * 4096 % 65536 in
    let c = m * 2048 % 65536 in
    let d = op * 64 % 65536 in
    rw (
      or_add a 14 b (omega arith) (omega arith),
      or_add (a + b) 12 c (omega arith) (omega arith),
      or_add (a + b + c) 11 d (omega arith) (omega arith),
      or_add (a + b + c + d) 6 hop (omega arith) (omega arith),
    ) (omega arith)

pub returns : goal.returns
returns c = search word-or
