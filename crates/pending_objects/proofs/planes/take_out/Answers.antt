use borrow.Author.Rules.{rules}
use mathlib.Core.Path.{refl}
use Rattle.image.proofs.Words.{word_read, word_written}
use Rattle.image_laws.specs.Bits.{clear_bit}
use Rattle.pending_objects.proofs.planes.take_out.Goals as goal

pub returns : goal.returns
unfolding clear_bit
returns g c =
    let v = g.met.W.Word.laws.by_value in
    rw (c.BITS-3.ensures, word_written v, c.without_bit.ensures, c.BITS-2.ensures, word_read v c.args.s.now _ _ (search rules) c.index-s-i.is, c.BITS.ensures) refl
