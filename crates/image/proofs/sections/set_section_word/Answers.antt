use borrow.Author.Rules.{rules}
use Rattle.std.proofs.Common.{◌∙◌}
use Rattle.image.specs.Section.{number_of}
use Rattle.image.proofs.Words.{section_written}
use Rattle.image.proofs.Named.{part_is, with_part_is}
use Rattle.image.proofs.sections.set_section_word.Goals as goal

pub returns : goal.returns
returns g c =
    let w = g.W.Word.BITS in
    let ws = g.W.Word.words c.args.im.now in
    section_written g.met.W.Word.laws.by_value c.args.im.now w c.args.k (number_of c.args.s) _ _ c.requires.i_bound (search rules) c.args.v
    ∙ rw (part_is w c.args.k ws c.args.s) (with_part_is w c.args.k ws c.args.s _)
