use Rattle.std.proofs.Common.{◌∙◌, ap, arith, length}
use Rattle.model.specs.Image.{starts_at, image_of, image}
use Rattle.image_laws.proofs.Lengths.{starts_words}
use Rattle.sets.proofs.Words.{section_slice, cards_slice}
use Rattle.sets.proofs.start_words.Goals as goal

pub returns : goal.returns
unfolding image_of image
returns g c =
    let L = g.met.W.Word.laws in
    let e = section_slice L.by_value c.args.im.now g.W.Word.BITS c.args.k starts_at _ _ c.place.ensures (omega (arith, c.place.ensures, c.place-2.ensures)) in
    record { words = e; cards = cards_slice L.by_value _ _ c.args.k _ L.one_of_two L.bits_of_card (ap length e ∙ starts_words c.requires) }
