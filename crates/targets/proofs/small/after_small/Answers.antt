use Rattle.soundness_laws.proofs.Small.{full_bounds}
use Rattle.targets.proofs.small.after_small.Goals as goal

pub small_words-requires-clause-link_bounds : goal.small_words-requires-clause-link_bounds
small_words-requires-clause-link_bounds g c = full_bounds _ _ _ c.requires.sized _ c.full_words-n.ensures _ _ (rw c.BITS.ensures at c.of-last.ensures) c.note_bounds.ensures
