use Rattle.mutator_laws.proofs.Taking.{object_made}
use Rattle.taken_runs.proofs.taking.make_object.Goals as goal

pub returns : goal.returns
returns g c =
    object_made _ _ _ _ _ _ _ _ _ _ (rw c.of.ensures at c.set_word.ensures) (rw c.of-2.ensures at c.set_word-2.ensures) c.set_start.ensures (rw c.of-3.ensures at c.set_reg.ensures)
