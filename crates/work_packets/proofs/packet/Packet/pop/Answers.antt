use Rattle.tracers_laws.specs.Packet.{without_last}
use Rattle.image.proofs.Words.{word_written}
use Rattle.work_packets.proofs.packet.Packet.pop.Goals as goal

pub returns : goal.returns
unfolding without_last
returns g c = simp (word_written g.met.W.Word.laws.by_value, c.of.ensures)
