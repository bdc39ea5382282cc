use borrow.Author.Rules.{rules}
use mathlib.Core.Path.{refl}
use Rattle.image.proofs.Words.{word_read, word_written}
use Rattle.model.specs.Base.{set_bit}
use Rattle.pending_objects.proofs.planes.add.Goals as goal

pub returns : goal.returns
unfolding set_bit
returns g c =
    let v = g.met.W.Word.laws.by_value in
    rw (c.BITS-3.ensures, word_written v, c.with_bit.ensures, c.BITS-2.ensures, word_read v c.args.s.now _ _ (search rules) c.index-s-i.is, c.BITS.ensures) refl
