use Rattle.finish_laws.proofs.gaps.Code.{keep_next, keep_behind, within_none, within_grown}
use mathlib.Core.Path.{refl, ◌∙◌}
use native.Mathlib.Omega.{arith}
use borrow.Author.Rules.{rules}
use Rattle.swept_gaps.proofs.gaps.keep_at.Goals as goal

pub returns-then-e-h : goal.returns-then-e-h
returns-then-e-h g c = record { im_after = search (rules, keep_next); start_value = (refl, search (rules, within_none)) }

pub returns : goal.returns
returns g c =
    let G = c.close_gap-n in
    record { im_after = keep_behind _ _ _ _ c.if-e-h.false _ (c.value-size.ensures.value ∙ c.word.ensures) _ G.ensures.im_after _ G.ensures.value _ c.grow.ensures; start_value = (refl, within_grown _ _ _ _ (search rules) (omega arith) _ (omega arith) _ G.ensures.value _ c.grow.ensures) }
