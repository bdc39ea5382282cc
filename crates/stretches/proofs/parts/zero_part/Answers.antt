use borrow.Author.Rules.{rules}
use Rattle.std.proofs.Common.{◌∙◌, ap, ◌-◌}
use Rattle.model.specs.Base.{zeroes}
use Rattle.image.specs.Section.{number_of}
use Rattle.image.proofs.Named.{part_is}
use Rattle.stretches.proofs.Words.{part_of}
use Rattle.stretches.proofs.parts.zero_part.Goals as goal

pub returns : goal.returns
returns g c =
    let w = g.W.Word.BITS in
    let A = c.args in
    rw (← part_is w A.k (g.W.Word.words A.im.now) A.s)
    (c.zeros.ensures ∙ ap zeroes (part_of g.met.W.Word.laws.by_value w A.k A.im.now (number_of A.s) _ _ A.a (A.e - A.a) (search rules) (search rules) (search rules)))
