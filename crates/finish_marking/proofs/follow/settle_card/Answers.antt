use Rattle.image.proofs.Words.{same_length}
use Rattle.image_laws.proofs.Loops.{looped_none, looped_more, looped_end}
use Rattle.finish_marking_laws.proofs.follow.Loops.{card_none, card_underway, card_more, card_end}
use native.Mathlib.Omega.{arith}
use borrow.Author.Rules.{rules}
use Rattle.finish_marking.proofs.follow.settle_card.Goals as goal

pub loop-i-init : goal.loop-i-init
loop-i-init g c = looped_none c.requires.sized (card_none g.W.Word.BITS _ _ _ _ g.met.W.Word.laws.one_of_two)

pub settle_word-h-requires-clause-underway : goal.settle_word-h-requires-clause-underway
settle_word-h-requires-clause-underway g c = rw (c.CARD_BITS.ensures, g.met.W.Word.laws.bits_of_card) (card_underway c.loop-i.invariant.state c.requires.underway)

pub loop-i-preserved : goal.loop-i-preserved
loop-i-preserved g c =
    let L = c.loop-i in
    let words = g.met.W.Word.laws.bits_of_card in
    looped_more L.invariant (omega (arith, words)) (same_length g.met.W.Word.laws.by_value _ _ (search rules)) (card_more L.invariant.state _ _ (rw (c.CARD_BITS.ensures, words) at c.settle_word-h.ensures))

pub returns : goal.returns
returns g c = let L = c.loop-i in card_end g.met.W.Word.laws.one_of_two (looped_end L.invariant (omega (arith, g.met.W.Word.laws.bits_of_card)))
