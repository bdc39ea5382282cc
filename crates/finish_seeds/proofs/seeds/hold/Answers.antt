use mathlib.Core.Path.{◌∙◌}
use borrow.Author.Rules.{rules}
use Rattle.finish_marking_laws.proofs.follow.Bits.{image_shape}
use Rattle.finish_marking_laws.proofs.seeds.Registers.{hold_nil, hold_marked, hold_new}
use native.Mathlib.Omega.{arith}
use Rattle.finish_seeds.proofs.seeds.hold.Goals as goal

pub returns-then-a-eq0 : goal.returns-then-a-eq0
returns-then-a-eq0 g c = search (rules, hold_nil)

pub returns-then-is_marked : goal.returns-then-is_marked
returns-then-is_marked g c = hold_marked _ _ _ (c.value-a.ensures.value ∙ c.reg_word.ensures) c.if-a-eq0.false _ c.is_marked.ensures c.if-is_marked.true

pub returns : goal.returns
returns g c = hold_new _ _ _ (c.value-a.ensures.value ∙ c.reg_word.ensures) c.if-a-eq0.false _ c.is_marked.ensures _ c.if-is_marked.false (image_shape c.requires.sized) (omega arith) _ _ c.set_mark.ensures c.clear_start.ensures
