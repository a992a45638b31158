-- The part of a frame that an answer names, by whether its range lies within the frame.
use mathlib.Core.Path.{◌≡◌, ◌∙◌}
use mathlib.Core.List.{List, []}
use Rattle.std.specs.Prelude.{Option, Some, None}
use Rattle.std.specs.Option.{unwrap_or}
use mathlib.Core.Logic.{inl, inr}
use Prim.Native.Nat.{ℕ, ◌+◌, ◌-◌, ◌<◌}
use native.Mathlib.Omega.{arith}
use borrow.Author.Rules.{rules}
use borrow.Author.Tests.{le-leb, lt-leb}
use denote.Ref.{Bor}
use lib.ListN.{length}
use Rattle.std.specs.Slice.{IsGetRangeResult}
use Rattle.rules.specs.Handling.{part_of}
use Rattle.rules.specs.Handling as Hn

module _ (f : List ℕ) (start size : ℕ) where
  pub part_outside : length f < start + size → [] ≡ part_of f start size
  unfolding Hn.part_of
  part_outside h = rw (lt-leb (start + size) (length f) h)

  pub part_got : (end : ℕ) (got : Option (Bor (List ℕ))) (none : Bor (List ℕ)) → end ≡ start + size → none.now ≡ []
      → IsGetRangeResult f start end got → (unwrap_or got none).now ≡ part_of f start size
  unfolding Hn.part_of
  part_got end None none e n g = n ∙ part_outside (elim g.0 [ inl h ↦ absurd (omega (arith, h, e)) | inr h ↦ omega (arith, h, e) ])
  part_got end (Some x) none e n g =
      let s : end - start ≡ size = omega arith in
      rw (le-leb (start + size) (length f) (omega (arith, g)), ← s) g.0.2

pub ruleset part_laws = (rules, part_outside, part_got)
