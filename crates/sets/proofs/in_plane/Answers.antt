use Rattle.image.proofs.Words.{word_read}
use Rattle.model.specs.Base.{bit}
use Rattle.sets.proofs.in_plane.Goals as goal

pub returns : goal.returns
unfolding bit
returns g c =
    let e = word_read g.met.W.Word.laws.by_value c.args.plane.now _ _ (rw c.BITS.ensures c.requires) c.index-plane-g.is in
    cc
