use lib.Bits.{and_mask}
use Rattle.model.specs.Base.{nth, bit, test_bit}
use Rattle.sets.proofs.in_set.Goals as goal

pub returns : goal.returns
unfolding bit nth test_bit
returns c = rw (and_mask _ 1)
