use borrow.Author.Rules.{rules}
use Rattle.image.proofs.Words.{words_length}
use Rattle.image_laws.specs.Compare.{within}
use Rattle.image_laws.proofs.Compare.{held_none, held_end, within_more}
use Rattle.std.proofs.Common.{arith}
use Rattle.stretches.proofs.Words.{read}
use Rattle.stretches.proofs.compare.are_within.Goals as goal

pub loop-i-init : goal.loop-i-init
loop-i-init g c = held_none

pub loop-i-preserved : goal.loop-i-preserved
loop-i-preserved g c =
    let by = g.met.W.Word.laws.by_value in
    let A = c.args in
    let i = c.loop-i.i in
    rw (
      read by A.s.now i c.value-x.result _ (search rules) c.index-s-i.is c.value-x.ensures.value,
      read by A.low.now i c.value.result _ (search rules) c.index-low-i.is c.value.ensures.value,
      read by A.high.now i c.value-in-loop-i.result _ (search rules) c.index-high-i.is c.value-in-loop-i.ensures.value,
    ) (within_more _ _ _ (omega (arith, words_length by A.s.now)) _ _ c.loop-i.invariant)

pub returns : goal.returns
unfolding within
returns g c = held_end c.loop-i.invariant (omega (arith, words_length g.met.W.Word.laws.by_value c.args.s.now))
