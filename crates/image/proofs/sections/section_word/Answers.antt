use borrow.Author.Rules.{rules}
use Rattle.std.proofs.Common.{◌∙◌, ap}
use Rattle.model.specs.Base.{nth}
use Rattle.image.specs.Section.{number_of}
use Rattle.image.proofs.Words.{section_read}
use Rattle.image.proofs.Named.{part_is}
use Rattle.image.proofs.sections.section_word.Goals as goal

pub returns : goal.returns
returns g c =
    let w = g.W.Word.BITS in
    section_read g.met.W.Word.laws.by_value c.args.im.now w c.args.k (number_of c.args.s) _ _ c.requires.i_bound (search rules) c.requires.sized _ c.index-im-place.is
    ∙ ap (λ l. nth l c.args.i) (part_is w c.args.k (g.W.Word.words c.args.im.now) c.args.s)
