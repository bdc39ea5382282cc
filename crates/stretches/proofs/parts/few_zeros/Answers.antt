use borrow.Author.Rules.{rules}
use Rattle.image.proofs.Words.{words_length}
use Rattle.image_laws.specs.Parts.{is_zero}
use Rattle.image_laws.proofs.Compare.{held_none, held_more, held_end}
use Rattle.image_laws.proofs.Parts.{zeroes_all}
use Rattle.std.proofs.Common.{arith, ◌∙◌}
use Rattle.stretches.proofs.Words.{read}
use Rattle.stretches.proofs.parts.few_zeros.Goals as goal

pub loop-i-init : goal.loop-i-init
loop-i-init g c = held_none

pub loop-i-preserved : goal.loop-i-preserved
unfolding is_zero
loop-i-preserved g c =
    let by = g.met.W.Word.laws.by_value in
    let s = c.args.s.now in
    held_more _ _ _ _ _ c.loop-i.invariant (omega (arith, words_length by s)) (rw (read by s c.loop-i.i c.value.result _ (search rules) c.index-s-i.is c.value.ensures.value))

pub returns : goal.returns
returns g c = held_end c.loop-i.invariant (omega (arith, words_length g.met.W.Word.laws.by_value c.args.s.now)) ∙ zeroes_all _
