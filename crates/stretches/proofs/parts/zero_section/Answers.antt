use borrow.Author.Rules.{rules}
use Rattle.image.specs.Section.{number_of}
use Rattle.image.proofs.Named.{part_is}
use Rattle.stretches.proofs.Words.{section_zero_words}
use Rattle.stretches.proofs.parts.zero_section.Goals as goal

pub returns : goal.returns
returns g c =
    let w = g.W.Word.BITS in
    let A = c.args in
    rw (← part_is w A.k (g.W.Word.words A.im.now) A.s) (section_zero_words g.met.W.Word.laws.by_value w A.k A.im.now (number_of A.s) _ _ _ (search rules) (search rules) c.zeros.ensures)
