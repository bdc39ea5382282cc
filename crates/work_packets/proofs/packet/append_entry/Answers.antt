use Rattle.std.proofs.Common.{arith}
use borrow.Author.Rules.{rules}
use denote.Param.{layout}
use Rattle.tracers_laws.proofs.Packet.{packet_count, pushed_count, append_done}
use Rattle.work_packets.proofs.Entries.{packet_fits}
use Rattle.work_packets.proofs.packet.append_entry.Goals as goal

pub read_packet-q-requires : goal.read_packet-q-requires
read_packet-q-requires g c = let fits = packet_fits g.met.W.Word.laws.by_value c.args.im.now (layout g.row.W) _ _ c.requires.sized c.well_formed.0.1 in (fits, search rules)

pub push-r-requires : goal.push-r-requires
push-r-requires g c =
    let fits = packet_fits g.met.W.Word.laws.by_value c.args.im.now (layout g.row.W) _ _ c.requires.sized c.well_formed.0.1 in
    (fits, omega (arith, packet_count _ _ _ c.read_packet-q.ensures))

pub write_packet-requires : goal.write_packet-requires
write_packet-requires g c =
    let fits = packet_fits g.met.W.Word.laws.by_value c.args.im.now (layout g.row.W) _ _ c.requires.sized c.well_formed.0.1 in
    (fits, (search rules, (omega arith, omega (arith, pushed_count _ _ _ c.push-r.ensures, packet_count _ _ _ c.read_packet-q.ensures))))

pub returns : goal.returns
returns g c = search (rules, append_done)
