use borrow.Author.Rules.{rules}
use Rattle.std.proofs.Common.{◌∙◌}
use Rattle.image.specs.Section.{number_of}
use Rattle.image.proofs.Named.{part_is, with_part_is}
use Rattle.stretches.proofs.Words.{section_cleared}
use Rattle.stretches.proofs.clearing.clear_section.Goals as goal

pub returns : goal.returns
returns g c =
    let w = g.W.Word.BITS in
    let A = c.args in
    let ws = g.W.Word.words A.im.now in
    section_cleared g.met.W.Word.laws.by_value w A.k A.im.now (number_of A.s) _ _ (search rules) (search rules) (search rules) _ c.clear.ensures
    ∙ rw (part_is w A.k ws A.s) (with_part_is w A.k ws A.s _)
