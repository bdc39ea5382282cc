use Rattle.model.specs.Base.{test_bit}
use Prim.Native.Nat.{◌/◌, ◌^◌}
use lib.Bits.{and_mask}
use Rattle.image.proofs.word.Word.has_bit.Goals as goal

pub returns : goal.returns
unfolding test_bit
returns g c = rw (← c.value.ensures.value) (rw (and_mask (c.value.result / 2 ^ c.args.j) 1))
