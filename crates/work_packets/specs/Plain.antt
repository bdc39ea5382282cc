-- The plain record of a packet, whatever the width of its words.
use Rattle.std.specs.Prelude.{ℕ, List}
use Rattle.tracers_laws.specs.Packet as packets
use Rattle.work_packets.specs.declared.packet.Packet.{Packet}

abbrev pub packet_of : {W : Type 0} → (List W → List ℕ) → Packet W → packets.Packet
packet_of words q = record { count = q.count; entries = words q.entries }
