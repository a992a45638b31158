-- The table of option treatments agrees with the flag definitions: one test computed over all 512 keys, and from it each entry.
use Rattle.handler.proofs.Stages.{parts}
use mathlib.Core.{Path.◌≡◌, Path.refl, List.List}
use mathlib.Core.Bool.{Bool, true, false, not, ◌&&◌, ◌||◌, false≢true}
use Prim.Native.Nat.{ℕ, ◌/◌, ◌%◌, ◌<◌}
use borrow.Author.Tests.{ne_eqb}
use lib.Dec.{eqb}
use lib.ListN.{get_or}
use Rattle.rules.specs.Options.{hop_by_hop_critical, ingress_to_egress_critical, implemented, strippable}
use Rattle.rules.proofs.TestLaws.{and_no, and_yes, by_equal, every_below, each_below}
use Rattle.handler.specs.declared.treatment.Entry.{Entry}
use Rattle.handler.specs.Treatment.{Treats, transit_discards, egress_discards, strip_applies}

abbrev pub same : Bool → Bool → Bool
same true b = b
same false b = not b

is_same : (a b : Bool) → same a b ≡ true → a ≡ b
is_same true true e = refl
is_same false false e = refl
is_same true false e = absurd (false≢true e)
is_same false true e = absurd (false≢true e)

-- an entry says what the definitions say of its key, for Length 2 and for another
abbrev pub agrees : Entry → ℕ → Bool
agrees entry key =
    same (transit_discards entry) (hop_by_hop_critical key)
    && same (egress_discards entry) (hop_by_hop_critical key || ingress_to_egress_critical key)
    && same (not (eqb key 0x083) && strip_applies entry) (strippable key 2)
    && same (strip_applies entry) (strippable key 0)

strippable_other : (key size : ℕ) → (size ≡ 2 → ⊥) → strippable key size ≡ strippable key 0
unfolding strippable implemented
strippable_other key size h = rw (ne_eqb size 2 h)

entry_treats : (key : ℕ) (entry : Entry) → agrees entry key ≡ true → Treats key entry
entry_treats key entry e =
    record {
      transit = is_same _ _ (search parts);
      egress = is_same _ _ (search parts);
      strip = λ size.
          by_equal size 2
          (λ two. rw (two, and_yes) (is_same _ _ (search parts)))
          (λ other. rw (ne_eqb size 2 other, and_no, strippable_other key size other) (is_same _ _ (search parts)));
    }

-- from the test of a table in rows of 16 to each entry
pub table_treats : (rows : List (List Entry)) (no_row : List Entry) (none : Entry) → every_below 512 (λ k. agrees (get_or (get_or rows (k / 16) no_row) (k % 16) none) k) ≡ true
    → (key row column : ℕ) → key < 512 → row ≡ key / 16 → column ≡ key % 16 → Treats key (get_or (get_or rows row no_row) column none)
table_treats rows no_row none all key row column h r c =
    rw (r, c) (entry_treats key _ (each_below 512 (λ k. agrees (get_or (get_or rows (k / 16) no_row) (k % 16) none) k) all key h))
