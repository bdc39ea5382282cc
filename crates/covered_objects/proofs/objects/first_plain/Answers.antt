use Rattle.soundness_laws.proofs.Checks.{first_two}
use Rattle.covered_objects.proofs.objects.first_plain.Goals as goal

pub returns : goal.returns
returns g c = first_two _ _ _ _ c.is_plain.ensures c.is_plain-2.ensures
