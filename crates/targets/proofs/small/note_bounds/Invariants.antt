use Rattle.soundness_laws.specs.Small.{Bounds}
use Rattle.targets.proofs.small.note_bounds.Given as goal

abbrev pub invariant-loop-i : goal.invariant-loop-i
invariant-loop-i g l = Bounds g.W.Word.BITS (g.W.Word.value l.top) l.i (g.W.Word.words l.bounds)
