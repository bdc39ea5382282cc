use borrow.Author.Rules.{rules}
use Rattle.model.specs.Rows.{rows_open}
use Rattle.request_laws.specs.Answer.{asked}
use Rattle.mutator_laws.specs.Objects.{means_level}
use Rattle.mutator_laws.proofs.Levels.{write_done}
use Rattle.mutator_laws.proofs.Objects.{object_nil, word_past, reg_object, object_below, level_below}
use Rattle.mutator_laws.proofs.Passed.{write_passed}
use mathlib.Core.Path.{refl, ◌∙◌}
use native.Mathlib.Omega.{arith}
use Rattle.image_laws.proofs.Places.{few_cards}
use Rattle.mutator_levels.proofs.levels.write.Goals as goal

pub returns-then-g-eq0 : goal.returns-then-g-eq0
unfolding asked rows_open
returns-then-g-eq0 g c = let p = c.requires in object_nil (write_passed _ _ _ p.p_value p.p_bound _ _) (means_level (c.value-g.ensures.value ∙ c.reg.ensures) refl refl) c.if-g-eq0.true

pub levels-requires : goal.levels-requires
levels-requires g c = record { sized = search rules; object_at = (reg_object _ _ _ c.requires.sound _ _ (c.value-g.ensures.value ∙ c.reg.ensures) c.if-g-eq0.false) }

pub returns-then-levels-b : goal.returns-then-levels-b
unfolding asked rows_open
returns-then-levels-b g c = let p = c.requires in word_past (write_passed _ _ _ p.p_value p.p_bound _ _) (means_level (c.value-g.ensures.value ∙ c.reg.ensures) c.levels.ensures refl) c.if-g-eq0.false c.if-levels-b.true

pub links-n-requires : goal.links-n-requires
links-n-requires g c = record { sized = search rules; g_bound = object_below _ _ _ (reg_object _ _ _ c.requires.sound _ _ (c.value-g.ensures.value ∙ c.reg.ensures) c.if-g-eq0.false) }

pub overflow_add-n : goal.overflow_add-n
overflow_add-n g c = omega (arith, few_cards g.met.W.Word.laws.one_of_two c.requires.sized.high, (level_below _ _ _ ((reg_object _ _ _ c.requires.sound _ _ (c.value-g.ensures.value ∙ c.reg.ensures) c.if-g-eq0.false)) c.levels.ensures c.links-n.ensures c.if-levels-b.false))

pub overflow_add-n-2 : goal.overflow_add-n-2
overflow_add-n-2 g c = omega (arith, few_cards g.met.W.Word.laws.one_of_two c.requires.sized.high, (level_below _ _ _ ((reg_object _ _ _ c.requires.sound _ _ (c.value-g.ensures.value ∙ c.reg.ensures) c.if-g-eq0.false)) c.levels.ensures c.links-n.ensures c.if-levels-b.false))

pub set_word-requires : goal.set_word-requires
set_word-requires g c = record { sized = search rules; i_bound = (level_below _ _ _ ((reg_object _ _ _ c.requires.sound _ _ (c.value-g.ensures.value ∙ c.reg.ensures) c.if-g-eq0.false)) c.levels.ensures c.links-n.ensures c.if-levels-b.false) }

pub returns : goal.returns
returns g c =
    let p = c.requires in
    rw c.of-2.ensures (write_done _ _ _ _ p.p_bound p.p_value _ (c.value-g.ensures.value ∙ c.reg.ensures) c.if-g-eq0.false _ _ c.levels.ensures c.links-n.ensures (omega arith) _ _ (rw c.of.ensures at c.set_word.ensures))
