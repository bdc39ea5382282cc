use Rattle.image.proofs.Words.{same_length}
use Rattle.image_laws.proofs.Loops.{looped_end}
use Rattle.finish_marking_laws.proofs.seeds.Bared.{opening_more}
use Rattle.finish_marking_laws.proofs.seeds.Opening.{card-word, card_whole}
use native.Mathlib.Omega.{arith}
use borrow.Author.Rules.{rules}
use Rattle.opened_cards.proofs.opening.open_card.Goals as goal

pub loop-i-preserved : goal.loop-i-preserved
loop-i-preserved g c =
    let L = c.loop-i in
    let words = g.met.W.Word.laws.bits_of_card in
    opening_more L.invariant (omega (arith, words)) (same_length g.met.W.Word.laws.by_value _ _ (search rules)) (card-word g.W.Word.BITS _ _ L.invariant.state (rw (c.CARD_BITS.ensures, words) at c.open_word.ensures))

pub returns : goal.returns
returns g c = let L = c.loop-i in card_whole g.W.Word.BITS _ _ _ g.met.W.Word.laws.one_of_two (looped_end L.invariant (omega (arith, g.met.W.Word.laws.bits_of_card)))
