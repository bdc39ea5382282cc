use Rattle.model.specs.Base.{test_bit}
use Prim.Native.Nat.{◌/◌, ◌^◌}
use lib.Bits.{and_mask}
use Rattle.image.proofs.word.U16Word.has_bit.Goals as goal

pub returns : goal.returns
unfolding test_bit
returns c = rw (and_mask (c.args.self / 2 ^ c.args.j) 1)
