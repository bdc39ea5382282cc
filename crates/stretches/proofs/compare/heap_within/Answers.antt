use borrow.Author.Rules.{rules}
use Rattle.std.proofs.Common.{◌∙◌, ap, ◌-◌}
use Rattle.image_laws.specs.Compare.{within}
use Rattle.model.specs.Image.{heap_at, image_of, image, split}
use Rattle.stretches.proofs.Words.{part_of}
use Rattle.stretches.proofs.compare.heap_within.Goals as goal

pub returns : goal.returns
unfolding image_of image split
returns g c = let A = c.args in c.are_within.ensures ∙ ap (within _ _) (part_of g.met.W.Word.laws.by_value g.W.Word.BITS A.k A.im.now heap_at _ _ A.a (A.e - A.a) (search rules) (search rules) (search rules))
