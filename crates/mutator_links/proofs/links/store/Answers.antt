use borrow.Author.Rules.{rules}
use Rattle.model.specs.Rows.{rows_open}
use Rattle.request_laws.specs.Answer.{asked}
use Rattle.mutator_laws.specs.Objects.{means_link}
use Rattle.mutator_laws.proofs.Links.{store_done}
use Rattle.mutator_laws.proofs.Objects.{object_nil, word_past, reg_object, object_below, link_below}
use Rattle.mutator_laws.proofs.Passed.{store_passed}
use mathlib.Core.Path.{refl, ◌∙◌}
use native.Mathlib.Omega.{arith}
use Rattle.image_laws.proofs.Places.{few_cards}
use Rattle.mutator_links.proofs.links.store.Goals as goal

pub returns-then-g-eq0 : goal.returns-then-g-eq0
unfolding asked rows_open
returns-then-g-eq0 g c = let p = c.requires in object_nil (store_passed _ _ _ p.p_value _ _ p.p_bound) (means_link (c.value-g.ensures.value ∙ c.reg.ensures) refl refl) c.if-g-eq0.true

pub links-requires : goal.links-requires
links-requires g c = record { sized = search rules; g_bound = object_below _ _ _ (reg_object _ _ _ c.requires.sound _ _ (c.value-g.ensures.value ∙ c.reg.ensures) c.if-g-eq0.false) }

pub returns-then-links-b : goal.returns-then-links-b
unfolding asked rows_open
returns-then-links-b g c = let p = c.requires in word_past (store_passed _ _ _ p.p_value _ _ p.p_bound) (means_link (c.value-g.ensures.value ∙ c.reg.ensures) c.links.ensures refl) c.if-g-eq0.false c.if-links-b.true

pub overflow_add-b : goal.overflow_add-b
overflow_add-b g c = omega (arith, few_cards g.met.W.Word.laws.one_of_two c.requires.sized.high, (link_below _ _ _ ((reg_object _ _ _ c.requires.sound _ _ (c.value-g.ensures.value ∙ c.reg.ensures) c.if-g-eq0.false)) c.links.ensures c.if-links-b.false))

pub set_word-requires : goal.set_word-requires
set_word-requires g c = record { sized = search rules; i_bound = (link_below _ _ _ ((reg_object _ _ _ c.requires.sound _ _ (c.value-g.ensures.value ∙ c.reg.ensures) c.if-g-eq0.false)) c.links.ensures c.if-links-b.false) }

pub returns : goal.returns
returns g c =
    let p = c.requires in
    rw c.of-2.ensures (store_done _ _ _ _ _ p.p_value _ _ c.links.ensures c.if-g-eq0.false p.p_bound (c.value-g.ensures.value ∙ c.reg.ensures) (omega arith) _ c.reg-v.ensures _ _ c.set_word.ensures (rw c.of.ensures at c.set_owed.ensures))
