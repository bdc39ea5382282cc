use borrow.Author.Rules.{rules}
use Rattle.model.specs.Rows.{rows_open}
use Rattle.request_laws.specs.Answer.{asked}
use Rattle.mutator_laws.specs.Objects.{means_link}
use Rattle.mutator_laws.proofs.Links.{load_done}
use Rattle.mutator_laws.proofs.Objects.{object_nil, word_past, reg_object, object_below, link_below}
use Rattle.mutator_laws.proofs.Passed.{load_passed}
use mathlib.Core.Path.{refl, ◌∙◌}
use native.Mathlib.Omega.{arith}
use Rattle.image_laws.proofs.Places.{few_cards}
use Rattle.mutator_links.proofs.links.load.Goals as goal

pub returns-then-g-eq0 : goal.returns-then-g-eq0
unfolding asked rows_open
returns-then-g-eq0 g c = let p = c.requires in object_nil (load_passed _ _ _ p.p_value _ _ p.p_bound) (means_link (c.value-g.ensures.value ∙ c.reg.ensures) refl refl) c.if-g-eq0.true

pub links-requires : goal.links-requires
links-requires g c = record { sized = search rules; g_bound = object_below _ _ _ (reg_object _ _ _ c.requires.sound _ _ (c.value-g.ensures.value ∙ c.reg.ensures) c.if-g-eq0.false) }

pub returns-then-links-c : goal.returns-then-links-c
unfolding asked rows_open
returns-then-links-c g c = let p = c.requires in word_past (load_passed _ _ _ p.p_value _ _ p.p_bound) (means_link (c.value-g.ensures.value ∙ c.reg.ensures) c.links.ensures refl) c.if-g-eq0.false c.if-links-c.true

pub overflow_add-c : goal.overflow_add-c
overflow_add-c g c = omega (arith, few_cards g.met.W.Word.laws.one_of_two c.requires.sized.high, (link_below _ _ _ ((reg_object _ _ _ c.requires.sound _ _ (c.value-g.ensures.value ∙ c.reg.ensures) c.if-g-eq0.false)) c.links.ensures c.if-links-c.false))

pub word-v-requires : goal.word-v-requires
word-v-requires g c = record { sized = search rules; i_bound = (link_below _ _ _ ((reg_object _ _ _ c.requires.sound _ _ (c.value-g.ensures.value ∙ c.reg.ensures) c.if-g-eq0.false)) c.links.ensures c.if-links-c.false) }

pub returns : goal.returns
returns g c =
    let p = c.requires in
    load_done _ _ _ _ _ p.p_value _ _ c.links.ensures c.if-g-eq0.false p.p_bound (c.value-g.ensures.value ∙ c.reg.ensures) (omega arith) _ c.word-v.ensures _ c.set_reg.ensures
