use Rattle.std.proofs.Common.{◌*◌}
use Rattle.soundness_laws.proofs.Joined.{Joined}
use Rattle.sets.proofs.card_bits.Given as goal

abbrev pub invariant-loop-i : goal.invariant-loop-i
invariant-loop-i g l = let B = g.W.Word in Joined B.BITS (B.words l.bits) (B.CARD_BITS * l.c) B.CARD_BITS l.x l.i
