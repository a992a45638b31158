-- The parts of a number of eight octets are what is read where they stand; the header that one such number has, and the field that one begins.
-- By arithmetic.
use Rattle.std.specs.Prelude.{Some, Ok}
use mathlib.Core.Path.{◌≡◌, refl, sym, ◌∙◌}
use mathlib.Core.List.{List}
use Prim.Native.Nat.{ℕ, ◌+◌, ◌-◌, ◌*◌, ◌/◌, ◌%◌, ◌≤◌}
use native.Mathlib.{Omega.arith, Nat.add_assoc}
use lib.ListN.{length, get_or}
use mir.Syntax.{w8}
use mir.Val.{Fits}
use borrow.Author.Tests.{le-ltb}
use Rattle.rules.specs.{Octets.octet, Octets.be16, Octets.be32, Fields.field_at}
use Rattle.rules.specs.{Header.read_frame, Link.link_length, Link.ethertype_trill}
use Rattle.rules.proofs.{FieldLaws.field_at_laws, FieldLaws.field_taken_lem, FrameLaws.read_frame_laws, FrameLaws.read_trill, FrameLaws.length_plain}
use Rattle.octets.specs.Words.{be64}

-- two numbers of four octets, or four of two
module _ (s : List ℕ) (at n : ℕ) (is : n ≡ be64 s at) where
  pub high_half : n / 4294967296 ≡ be32 s at
  high_half = omega arith

  pub low_half : n % 4294967296 ≡ be32 s (at + 4)
  low_half = omega arith

  pub first_part : n / 281474976710656 ≡ be16 s at
  first_part = omega (arith, high_half)

  -- `be48` there
  pub rest_part : n % 281474976710656 ≡ be16 s (at + 2) * 4294967296 + be32 s (at + 4)
  rest_part = omega (arith, high_half)

  pub second_part : n / 4294967296 % 65536 ≡ be16 s (at + 2)
  second_part = omega (arith, high_half)

  pub third_part : n / 65536 % 65536 ≡ be16 s (at + 4)
  third_part = omega (arith, low_half)

  pub last_part : n % 65536 ≡ be16 s (at + 4 + 2)
  last_part = omega (arith, low_half)

-- a frame without a tag: its Ethertype and the header's three fields
pub read_untagged : (f : List ℕ) (n : ℕ) → n ≡ be64 f 12 → 20 ≤ length f → n / 281474976710656 ≡ ethertype_trill
    → Ok (record { place = 14; word = n / 4294967296 % 65536; egress = n / 65536 % 65536; ingress = n % 65536 }) ≡ read_frame f
read_untagged f n is long trill =
    let ether : ethertype_trill ≡ be16 f 12 = sym trill ∙ first_part f 12 n is in
    let plain : 14 ≡ link_length f = length_plain f ethertype_trill ether (omega arith) in
    read_trill f 14 plain (omega arith) (omega arith) ethertype_trill refl ether (n / 4294967296 % 65536) (n / 65536 % 65536) (n % 65536) long
    (second_part f 12 n is) (third_part f 12 n is) (last_part f 12 n is)

pub ruleset read_laws = (read_untagged, read_frame_laws)

-- a field that begins with tag 2 and length 14, known by the high three octets
pub field_record : (s : List ℕ) (at n : ℕ) → n ≡ be64 s at → at ≤ length s → 17 ≤ length s - at → n / 1099511627776 ≡ 0x02000E
    → Some (record { tag = 2; length = 14; next = at + 17 }) ≡ field_at s at
unfolding field_at
field_record s at n is from room e =
    let begins : octet s at * 65536 + octet s (at + 1) * 256 + octet s (at + 2) ≡ 0x02000E = omega arith in
    let tag : octet s at ≡ 2 = omega arith in
    let size : be16 s (at + 1) ≡ 14 = simp add_assoc (omega (arith, begins, tag)) in
    let next : at + 3 + 14 ≡ at + 17 = omega arith in
    rw (le-ltb (length s) (at + 3) (omega arith), size, le-ltb (length s) (at + 3 + 14) (omega arith), tag, next)

-- and any other one, its length converted
pub field_other : (s : List ℕ) (at size n : ℕ) → size ≡ n → n ≡ be16 s (at + 1) → at ≤ length s → 3 ≤ length s - at
    → ((i : ℕ) → Fits w8 (get_or s i 0)) → size ≤ length s - at - 3 → Some (record { tag = get_or s at 0; length = size; next = at + 3 + size }) ≡ field_at s at
field_other s at size n e is from long octets = field_taken_lem s at from long size (e ∙ is) octets

pub ruleset field_laws = (field_record, field_other, field_at_laws)
