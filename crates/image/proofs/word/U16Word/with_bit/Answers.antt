use Rattle.image_laws.proofs.Masks.{one_shl, or_pow}
use Rattle.image.proofs.word.U16Word.with_bit.Goals as goal

pub returns : goal.returns
returns c = rw (one_shl 16 c.args.j c.requires) (or_pow c.args.self c.args.j)
