use borrow.Author.Rules.{rules}
use mathlib.Core.Path.{refl, ◌∙◌}
use Rattle.judge_laws.proofs.Words.{word_dirty, taken_none, taken_end, taken_place, taken_less, taken_more}
use Rattle.cover.proofs.words.word_covered.Goals as goal

pub returns-then-is_dirty : goal.returns-then-is_dirty
returns-then-is_dirty g c = word_dirty _ _ _ c.requires.sized _ 0 _ (rw (c.CARD_BITS.ensures, g.met.W.Word.laws.bits_of_card) at c.is_dirty.ensures) c.if-is_dirty.true

pub loop-left-init : goal.loop-left-init
loop-left-init g c = taken_none _ _ _ c.requires.sized _ _ c.value-left.ensures.fits (c.value-left.ensures.value ∙ c.mark_word.ensures)

pub object_covered-ok-requires-clause-g_bound : goal.object_covered-ok-requires-clause-g_bound
object_covered-ok-requires-clause-g_bound g c = rw c.BITS.ensures (taken_place _ _ _ c.requires.sized _ _ _ c.loop-left.invariant c.loop-left-test.true c.requires.w_bound)

pub loop-left-smaller : goal.loop-left-smaller
loop-left-smaller g c = taken_less _ _ _ c.requires.sized _ _ _ c.loop-left.invariant c.loop-left-test.true

pub loop-left-preserved : goal.loop-left-preserved
loop-left-preserved g c = taken_more _ _ _ c.requires.sized _ _ _ c.loop-left.invariant c.loop-left-test.true _ _ (rw c.BITS.ensures at c.object_covered-ok.ensures) refl

pub returns : goal.returns
returns g c = search (rules, taken_end)
