use borrow.Author.Rules.{rules}
use Rattle.image.proofs.Words.{words_length}
use Rattle.image_laws.specs.Compare.{near}
use Rattle.image_laws.proofs.Compare.{held_none, held_end, near_more}
use Rattle.std.proofs.Common.{arith}
use Rattle.stretches.proofs.Words.{read}
use Rattle.stretches.proofs.compare.are_near.Goals as goal

pub loop-i-init : goal.loop-i-init
loop-i-init g c = held_none

pub loop-i-preserved : goal.loop-i-preserved
loop-i-preserved g c =
    let by = g.met.W.Word.laws.by_value in
    let s = c.args.s.now in
    rw (read by s c.loop-i.i c.value-x.result _ (search rules) c.index-s-i.is c.value-x.ensures.value, c.value.ensures.value, c.value-in-loop-i.ensures.value)
    (near_more _ _ _ (omega (arith, words_length by s)) _ _ c.loop-i.invariant)

pub returns : goal.returns
unfolding near
returns g c = held_end c.loop-i.invariant (omega (arith, words_length g.met.W.Word.laws.by_value c.args.s.now))
