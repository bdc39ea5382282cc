use mathlib.Core.Path.{◌∙◌}
use Rattle.image.proofs.Words.{same_length}
use Rattle.finish_marking_laws.proofs.follow.Loops.{turns_none, turns_card, turns_underway, turns_fall, turns_more, turns_round, turns_end}
use native.Mathlib.Omega.{arith}
use borrow.Author.Rules.{rules}
use Rattle.finish_marking.proofs.follow.mark_all.Goals as goal

pub loop-h-init : goal.loop-h-init
loop-h-init g c = turns_none c.requires.sized c.requires.world c.requires.listed

pub overflow_sub-c : goal.overflow_sub-c
overflow_sub-c g c = omega (arith, turns_card c.loop-h.invariant c.loop-h-test.true)

pub card-requires-clause-c_lt_k : goal.card-requires-clause-c_lt_k
card-requires-clause-c_lt_k g c = (turns_card c.loop-h.invariant c.loop-h-test.true).1

pub set_card-requires-clause-c_lt_k : goal.set_card-requires-clause-c_lt_k
set_card-requires-clause-c_lt_k g c = (turns_card c.loop-h.invariant c.loop-h-test.true).1

pub settle_card-later-requires-clause-c_lt_k : goal.settle_card-later-requires-clause-c_lt_k
settle_card-later-requires-clause-c_lt_k g c = (turns_card c.loop-h.invariant c.loop-h-test.true).1

pub settle_card-later-requires-clause-underway : goal.settle_card-later-requires-clause-underway
settle_card-later-requires-clause-underway g c = turns_underway c.loop-h.invariant c.loop-h-test.true _ (c.value-h.ensures.value ∙ c.card.ensures) _ (rw c.of.ensures at c.set_card.ensures)

pub loop-h-smaller-then-h-eq1 : goal.loop-h-smaller-then-h-eq1
loop-h-smaller-then-h-eq1 g c = turns_fall c.loop-h.invariant c.loop-h-test.true _ (c.value-h.ensures.value ∙ c.card.ensures) _ (rw c.of.ensures at c.set_card.ensures) _ _ c.settle_card-later.ensures

pub loop-h-preserved-then-h-eq1 : goal.loop-h-preserved-then-h-eq1
loop-h-preserved-then-h-eq1 g c =
    turns_round c.loop-h.invariant c.loop-h-test.true _ (c.value-h.ensures.value ∙ c.card.ensures) _ (rw c.of.ensures at c.set_card.ensures) _ _ c.settle_card-later.ensures
    (same_length g.met.W.Word.laws.by_value _ _ (search rules)) c.if-h-eq1.true

pub loop-h-smaller : goal.loop-h-smaller
loop-h-smaller g c = turns_fall c.loop-h.invariant c.loop-h-test.true _ (c.value-h.ensures.value ∙ c.card.ensures) _ (rw c.of.ensures at c.set_card.ensures) _ _ c.settle_card-later.ensures

pub loop-h-preserved : goal.loop-h-preserved
loop-h-preserved g c =
    turns_more c.loop-h.invariant c.loop-h-test.true _ (c.value-h.ensures.value ∙ c.card.ensures) _ (rw c.of.ensures at c.set_card.ensures) _ _ c.settle_card-later.ensures
    (same_length g.met.W.Word.laws.by_value _ _ (search rules)) (search rules)

pub returns : goal.returns
returns g c = turns_end c.loop-h.invariant c.loop-h-test.false
