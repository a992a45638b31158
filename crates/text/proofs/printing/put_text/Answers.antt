-- Its contract, by one law for each need.
use mathlib.Core.Path.{◌≡◌, ap}
use mathlib.Core.List.{List}
use Prim.Native.Nat.{ℕ, ◌/◌, ◌≤◌}
use native.Mathlib.Omega.{arith}
use lib.ListN.{length, take}
use lib.Seq.{length-take-le}
use Rattle.std.specs.Simd.{first_chunks}
use Rattle.text.proofs.PrintLaws.{put_text_laws as laws}
use Rattle.text.proofs.printing.put_text.Goals as goal

pub returns-then-code-ne0 : goal.returns-then-code-ne0
returns-then-code-ne0 c = search laws

pub returns : goal.returns
returns c =
    let all = c.as_chunks.result.0.now in
    let e : take c.args.count all ≡ take c.args.count (first_chunks 8 (length c.args.trace.now / 8) c.args.trace.now) =
    ap (λ (l : List (List ℕ)). take c.args.count l) c.as_chunks.ensures.front in
    let few : c.args.count ≤ length c.args.trace.now / 8 = omega arith in
    let whole : length (take c.args.count all) ≡ c.args.count = length-take-le c.args.count all (omega (arith, c.as_chunks.ensures.front_len)) in
    search (laws, e, few, whole)
