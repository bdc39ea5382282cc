use Rattle.std.proofs.Common.{◌≡◌}
use Rattle.model.specs.Image.{image_of}
use Rattle.collector_laws.specs.Pool.{held_set}
use Rattle.packet_pool.proofs.pool.held_packets.Given as goal

abbrev pub invariant-loop-t : goal.invariant-loop-t
invariant-loop-t g l = l.s ≡ held_set (image_of g.W.Word.BITS l.k (g.W.Word.words l.im)) l.t
