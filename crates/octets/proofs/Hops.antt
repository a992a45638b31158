-- A record in two numbers has the next hop that its octets have, by their parts; and whether it is good, one law for each way out, by the tests in
-- their order.
use mathlib.Core.Path.{◌≡◌, refl}
use mathlib.Core.List.{List}
use mathlib.Core.Bool.{not, ◌&&◌, ◌||◌}
use Prim.Native.Nat.{ℕ, ◌+◌, ◌*◌, ◌/◌, ◌%◌}
use native.Mathlib.Omega.{arith}
use lib.Dec.{leb, eqb}
use Rattle.rules.specs.Octets.{be16, be32, be48}
use Rattle.rules.specs.Settings.{nickname_valid, hop_good, hop_of}
use Rattle.octets.specs.declared.values.Record.{Record}
use Rattle.octets.specs.Words.{be64}
use Rattle.octets.specs.Records.{record_of, hop_by}
use Rattle.octets.proofs.Macs.{withdrawn_or_valid}
use Rattle.octets.proofs.WordLaws.{first_part, second_part, low_half}

hop_read : (v : List ℕ) (head tail : ℕ) → head ≡ be64 v 0 → tail ≡ be64 v 6 → hop_by (record { head = head; tail = tail; vlan = be16 v 14 }) ≡ hop_of v
hop_read v head tail eh et =
    let mac : be32 v 4 * 65536 + be16 v 8 ≡ be48 v 4 = omega arith in
    rw (first_part v 0 head eh, second_part v 0 head eh, low_half v 0 head eh, second_part v 6 tail et, low_half v 6 tail et, mac)

pub hop_same : (v : List ℕ) → hop_by (record_of v) ≡ hop_of v
hop_same v = hop_read v (be64 v 0) (be64 v 6) refl refl

abbrev mac_of : Record → ℕ
mac_of r = (hop_by r).mac

mac_zero : (a b : ℕ) → eqb (a * 65536 + b) 0 ≡ (eqb a 0 && eqb b 0)
mac_zero a b = grind arith

-- whether a record is good, as the code tests it: the group bit where it stands, and of the MAC its first four octets first
pub chain : (r : Record) → hop_good (hop_by r) ≡ (nickname_valid (r.head / 281474976710656) && eqb (r.head / 16777216 % 2) 0
    && leb (r.head / 4294967296 % 65536) 0xFFBF && leb r.vlan 4094
    && (not (eqb (r.head % 4294967296) 0) || not (eqb (r.tail / 4294967296 % 65536) 0)))
unfolding hop_good
chain r =
    let group : mac_of r / 1099511627776 % 2 ≡ r.head / 16777216 % 2 = omega arith in
    let some : eqb (mac_of r) 0 ≡ (eqb (r.head % 4294967296) 0 && eqb (r.tail / 4294967296 % 65536) 0) = mac_zero _ _ in
    rw (group, some, withdrawn_or_valid) (grind arith)
