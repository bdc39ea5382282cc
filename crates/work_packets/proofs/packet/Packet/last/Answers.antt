use Rattle.std.proofs.Common.{◌-◌, ◌≡◌, arith, length}
use borrow.Author.Rules.{rules}
use Rattle.work_packets.proofs.Entries.{entry_read}
use Rattle.work_packets.proofs.packet.Packet.last.Goals as goal

pub returns : goal.returns
returns g c =
    let q = c.args.self in
    let t : length q.entries ≡ 30 = search rules in
    entry_read g.met.W.Word.laws.by_value q.entries (q.count - 1) c.index-self-n.result (omega arith)
