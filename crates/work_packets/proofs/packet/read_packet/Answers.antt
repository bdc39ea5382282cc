use Rattle.std.proofs.Common.{◌+◌, ◌*◌}
use borrow.Author.Rules.{rules}
use Rattle.image.proofs.Words.{words_part}
use Rattle.tracers_laws.proofs.Packet.{packet_read}
use Rattle.work_packets.proofs.packet.read_packet.Goals as goal

pub returns : goal.returns
returns g c =
    let A = c.args in
    let b = g.met.W.Word.laws.by_value in
    packet_read g.W.Word.BITS A.k (g.W.Word.words A.im.now) (search rules) A.p (search rules) (c.place.result + 32 * A.p) (search rules) _ _ (search rules)
    (rw (words_part b A.im.now _ _) at c.thirty-e.ensures)
