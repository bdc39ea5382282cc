use mathlib.Core.Path.{◌∙◌}
use Rattle.finish_marking_laws.proofs.seeds.Opening.{open_word}
use native.Mathlib.Omega.{arith}
use Rattle.opened_cards.proofs.opening.open_word.Goals as goal

pub returns : goal.returns
returns g c = open_word _ _ _ c.requires.sized _ _ _ _ _ (omega arith) (c.value-m.ensures.value ∙ c.mark_word.ensures) (c.value-s.ensures.value ∙ c.start_word.ensures) (omega arith) c.of.ensures _ c.set_start_word.ensures
