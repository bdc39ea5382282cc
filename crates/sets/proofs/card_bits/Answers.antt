use Rattle.std.proofs.Common.{◌∙◌, refl, arith}
use Rattle.image.proofs.Words.{word_read}
use Rattle.soundness_laws.proofs.Joined.{joined_more, joined_fits, joined_card, card_full}
use Rattle.sets.proofs.card_bits.Goals as goal

pub overflow_add-x : goal.overflow_add-x
overflow_add-x g c =
    let L = g.met.W.Word.laws in
    let e = c.value.ensures.value ∙ word_read L.by_value c.args.bits.now _ _ (rw c.CARD_BITS.ensures (omega arith)) c.index-bits-CARD_BITS.is in
    record { fits = rw c.BITS.ensures (joined_fits _ _ _ _ _ _ _ _ c.loop-i.invariant (omega arith) e (rw c.CARD_BITS.ensures refl) c.value.ensures.fits (omega (arith, card_full _ L.one_of_two _ L.bits_of_card))) }

pub loop-i-preserved : goal.loop-i-preserved
loop-i-preserved g c =
    let L = g.met.W.Word.laws in
    let e = c.value.ensures.value ∙ word_read L.by_value c.args.bits.now _ _ (rw c.CARD_BITS.ensures (omega arith)) c.index-bits-CARD_BITS.is in
    rw c.BITS.ensures (joined_more _ _ _ _ _ _ _ _ c.loop-i.invariant (omega arith) e (rw c.CARD_BITS.ensures refl) c.value.ensures.fits (omega (arith, card_full _ L.one_of_two _ L.bits_of_card)))

pub returns : goal.returns
returns g c = let L = g.met.W.Word.laws in joined_card _ L.one_of_two _ L.bits_of_card _ _ _ _ c.loop-i.invariant (omega arith)
