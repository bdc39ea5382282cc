use mathlib.Core.Path.{◌∙◌}
use borrow.Author.Rules.{rules}
use Rattle.soundness_laws.proofs.Lines.{sound_still, sound_cycle}
use Rattle.soundness.proofs.is_sound.Goals as goal

pub returns-then-value-eq0 : goal.returns-then-value-eq0
returns-then-value-eq0 g c = search (rules, sound_still)

pub returns : goal.returns
returns g c = sound_cycle _ _ _ c.requires _ c.layout_ok-ok.ensures _ (c.value.ensures.value ∙ c.running.ensures) _ c.if-value-eq0.false c.cycle_ok.ensures
