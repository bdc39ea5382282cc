use Rattle.std.proofs.Common.{◌+◌, ◌*◌, ◌-◌, ◌≡◌, ◌∙◌, length}
use borrow.Author.Rules.{rules}
use Rattle.image.proofs.Words.{words_length}
use Rattle.tracers_laws.proofs.Packet.{packet_written}
use Rattle.work_packets.proofs.Entries.{words_put}
use Rattle.work_packets.specs.Plain.{packet_of}
use Rattle.work_packets.proofs.packet.write_packet.Goals as goal

pub returns : goal.returns
returns g c =
    let A = c.args in
    let t : length A.q.entries ≡ 30 = search rules in
    rw (words_put g.met.W.Word.laws.by_value A.im.now c.put_words.new.s (c.place.result + 32 * A.p) (c.place.result + 32 * A.p + 32 - (c.place.result + 32 * A.p))) (packet_written g.W.Word.BITS A.k (g.W.Word.words A.im.now) (search rules) A.p (search rules) (c.place.result + 32 * A.p) (search rules) (packet_of g.W.Word.words A.q) (words_length g.met.W.Word.laws.by_value A.q.entries ∙ t) _ c.put_words.ensures)
