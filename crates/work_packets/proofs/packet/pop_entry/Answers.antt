use Rattle.std.proofs.Common.{arith}
use borrow.Author.Rules.{rules}
use denote.Param.{layout}
use Rattle.tracers_laws.proofs.Packet.{pop_done, packet_count, popped_count}
use Rattle.work_packets.proofs.Entries.{packet_fits}
use Rattle.work_packets.proofs.packet.pop_entry.Goals as goal

pub read_packet-q-requires : goal.read_packet-q-requires
read_packet-q-requires g c = let fits = packet_fits g.met.W.Word.laws.by_value c.args.im.now (layout g.row.W) _ _ c.requires.sized c.well_formed.0.1 in (fits, search rules)

pub last-g-requires : goal.last-g-requires
last-g-requires g c =
    let fits = packet_fits g.met.W.Word.laws.by_value c.args.im.now (layout g.row.W) _ _ c.requires.sized c.well_formed.0.1 in
    let n = packet_count _ _ _ c.read_packet-q.ensures in
    (fits, (omega (arith, n), omega (arith, n)))

pub pop-r-requires : goal.pop-r-requires
pop-r-requires g c =
    let fits = packet_fits g.met.W.Word.laws.by_value c.args.im.now (layout g.row.W) _ _ c.requires.sized c.well_formed.0.1 in
    let n = packet_count _ _ _ c.read_packet-q.ensures in
    (fits, (omega (arith, n), omega (arith, n)))

pub write_packet-requires : goal.write_packet-requires
write_packet-requires g c =
    let fits = packet_fits g.met.W.Word.laws.by_value c.args.im.now (layout g.row.W) _ _ c.requires.sized c.well_formed.0.1 in
    (fits, (search rules, (omega arith, omega (arith, popped_count _ _ c.pop-r.ensures, packet_count _ _ _ c.read_packet-q.ensures))))

pub returns : goal.returns
returns g c = search (rules, pop_done)
