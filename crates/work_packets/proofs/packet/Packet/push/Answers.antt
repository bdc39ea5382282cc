use Rattle.tracers_laws.specs.Packet.{with_entry}
use Rattle.image.proofs.Words.{word_written}
use Rattle.work_packets.proofs.packet.Packet.push.Goals as goal

pub returns : goal.returns
unfolding with_entry
returns g c = simp (word_written g.met.W.Word.laws.by_value)
