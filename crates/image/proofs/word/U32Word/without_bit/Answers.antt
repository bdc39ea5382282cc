use Rattle.image_laws.proofs.Masks.{one_shl, and_not_pow}
use Rattle.image.proofs.word.U32Word.without_bit.Goals as goal

pub returns : goal.returns
returns c = rw (one_shl 32 c.args.j c.requires) (and_not_pow 32 c.args.self c.args.j c.ranges.self.fits c.requires)
