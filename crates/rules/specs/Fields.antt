-- "Fields: one-byte tag, two-byte length, big-endian throughout." The layout that settings and descriptions share.
use Rattle.std.specs.Prelude.{Option, Some, None, ℕ, zero, suc, ◌+◌, List, [], ◌∷◌, Bool, true, false, ◌&&◌, ◌||◌, length, ltb, leb, eqb, if◌then◌else◌}
use Rattle.rules.specs.Octets.{octet, be16, part}
use Rattle.rules.specs.declared.FieldRead.{FieldRead}

-- a field's tag and value, or a field cut short
pub data Field : Type 0 where
  field : ℕ → List ℕ → Field
  cut : Field

-- the field at a place, with the next place, or none where it is cut short
unfoldable pub field_at : List ℕ → ℕ → Option FieldRead
field_at s at =
    if ltb (length s) (at + 3) then None else
    if ltb (length s) (at + 3 + be16 s (at + 1)) then None
    else Some (record { tag = octet s at; length = be16 s (at + 1); next = at + 3 + be16 s (at + 1) })

-- the fields from a place on; a cut one is the last. `fuel` bounds how many are read.
unfoldable pub fields_from : ℕ → List ℕ → ℕ → List Field
fields_from zero s at = []
fields_from (suc fuel) s at =
    elim (ltb at (length s)) [
      | false ↦ []
      | true ↦
          elim (field_at s at) [
            | Some f ↦ field f.tag (part s (at + 3) f.length) ∷ fields_from fuel s f.next
            | None ↦ cut ∷ []
          ]
    ]

-- each field takes three octets or more, so a fuel above the length is never used up: more changes nothing (law `fields_whole`)
abbrev pub fields_at : List ℕ → ℕ → List Field
fields_at s at = fields_from (suc (length s)) s at

unfoldable pub fields : List ℕ → List Field
fields s = fields_at s 0

-- "Tag 1, length 8 .. Tag 2, length 14 .. Tag 3, length 1 .. Tag 4, length 6 .. Tag 5, length 2 to 2,050"
-- T-01: "Tag 2 may have length 14 (VLAN 0) or 16 (VLAN last)." T-09: "tag 6, length 1"
abbrev pub hop_size : ℕ → Bool
hop_size size = eqb size 14 || eqb size 16

unfoldable pub length_good : ℕ → ℕ → Bool
length_good tag size =
    if eqb tag 1 then eqb size 8 else
    if eqb tag 2 then hop_size size else
    if eqb tag 3 then eqb size 1 else
    if eqb tag 4 then eqb size 6 else
    if eqb tag 5 then leb 2 size && leb size 2050 else
    if eqb tag 6 then eqb size 1
    else false
