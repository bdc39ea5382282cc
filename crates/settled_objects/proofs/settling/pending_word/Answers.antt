use mathlib.Core.Path.{◌∙◌}
use Rattle.image_laws.proofs.Lengths.{width_image}
use Rattle.finish_marking_laws.proofs.follow.Settling.{pending_word}
use native.Mathlib.Omega.{arith}
use Rattle.settled_objects.proofs.settling.pending_word.Goals as goal

pub returns : goal.returns
returns g c =
    pending_word g.W.Word.BITS _ (width_image g.W.Word.BITS _ _) g.met.W.Word.laws.one_of_two _ _ _ _ _ (c.value-m.ensures.value ∙ c.mark_word.ensures) (c.value-s.ensures.value ∙ c.start_word.ensures) (omega arith) c.of.ensures
