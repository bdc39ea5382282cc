use Rattle.model.specs.Base.{test_bit}
use Prim.Native.Nat.{◌/◌, ◌^◌}
use lib.Bits.{and_mask}
use Rattle.packet_pool.proofs.pool.in_pool.Goals as goal

pub returns : goal.returns
unfolding test_bit
returns c = rw (and_mask (c.args.s / 2 ^ c.args.p) 1)
