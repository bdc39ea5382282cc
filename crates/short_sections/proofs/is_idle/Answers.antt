use mathlib.Core.Bool.{and-true, and_assoc}
use Rattle.model.specs.Base.{every}
use Rattle.soundness_laws.specs.Tests.{still, idle}
use Rattle.short_sections.proofs.is_idle.Goals as goal

pub returns : goal.returns
unfolding idle still every
returns g c = simp (and_assoc, and-true) (cc)
