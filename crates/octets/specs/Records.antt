-- A next-hop record as two numbers of eight octets and the VLAN, and the next hop that it has in it.
use Rattle.std.specs.Prelude.{ℕ, ◌+◌, ◌*◌, ◌/◌, ◌%◌, List}
use Rattle.rules.specs.Octets.{be16}
use Rattle.rules.specs.declared.NextHop.{NextHop}
use Rattle.octets.specs.Words.{be64}
use Rattle.octets.specs.declared.values.Record.{Record}

abbrev pub record_of : List ℕ → Record
record_of v = record { head = be64 v 0; tail = be64 v 6; vlan = be16 v 14 }

abbrev pub hop_by : Record → NextHop
hop_by r =
    record {
      destination = r.head / 281474976710656;
      neighbour = r.head / 4294967296 % 65536;
      mac = r.head % 4294967296 * 65536 + r.tail / 4294967296 % 65536;
      serial = r.tail % 4294967296;
      vlan = r.vlan;
    }
