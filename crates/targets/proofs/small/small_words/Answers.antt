use Rattle.soundness_laws.proofs.Small.{full_inside, word_end, upto_more}
use native.Mathlib.Omega.{arith}
use Rattle.targets.proofs.small.small_words.Goals as goal

pub is_small_word-requires-clause-width_bound : goal.is_small_word-requires-clause-width_bound
is_small_word-requires-clause-width_bound g c =
    let P = c.requires in
    omega (arith, word_end g.W.Word.BITS _ _ P.sized _ _ (rw c.BITS-w.ensures at c.loop-g-test.true), full_inside g.W.Word.BITS _ _ P.sized _ P.full_upto)

pub loop-g-preserved : goal.loop-g-preserved
loop-g-preserved g c =
    rw c.BITS-w.ensures
    (upto_more g.W.Word.BITS _ _ c.requires.sized _ _ c.requires.full_upto c.loop-g.invariant (rw c.BITS-w.ensures at c.loop-g-test.true) (c.is_small_word.ensures c.if-not-is_small_word.false))
