use Rattle.soundness_laws.proofs.Small.{full_first, full_more}
use native.Mathlib.Omega.{arith}
use Rattle.targets.proofs.small.full_words.Goals as goal

pub loop-n-init : goal.loop-n-init
loop-n-init g c = full_first g.W.Word.BITS _ _ c.requires _ _ c.start_word-x.ensures c.with_bit.ensures (omega (arith, c.if-value-VALUES.false, g.met.W.Word.laws.values))

pub loop-n-preserved : goal.loop-n-preserved
loop-n-preserved g c =
    full_more g.W.Word.BITS _ _ c.requires _ c.loop-n.invariant _ c.start_word.ensures (omega (arith, c.if-value-VALUES-2.false, g.met.W.Word.laws.values)) (rw c.BITS.ensures at c.loop-n-test.true)
