use mathlib.Core.Bool.{and-true, and_assoc}
use Rattle.model.specs.Base.{every}
use Rattle.model.specs.Image.{hand, next_link, hand_card, next_granule}
use Rattle.model.specs.Undamaged.{tracer_ok}
use Rattle.short_sections.proofs.hands.tracer_ok.Goals as goal

pub returns : goal.returns
unfolding tracer_ok every hand next_link hand_card next_granule
returns g c = simp (and_assoc, and-true) (cc)
