use Prim.Native.Nat.{◌/◌, ◌^◌}
use lib.Bits.{and_mask}
use Rattle.model.specs.Base.{test_bit}
use Rattle.field_tables.proofs.tables.has_kind.Goals as goal

pub returns : goal.returns
unfolding test_bit
returns c = rw (and_mask (c.args.t / 2 ^ c.args.n) 1)
