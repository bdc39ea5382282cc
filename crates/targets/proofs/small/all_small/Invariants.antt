use Rattle.model.specs.Image.{image_of}
use Rattle.soundness_laws.specs.Small.{small_at}
use Rattle.soundness_laws.proofs.Checks.{CheckedFrom}
use Rattle.targets.proofs.small.all_small.Given as goal

abbrev pub invariant-loop-g : goal.invariant-loop-g
invariant-loop-g g l = CheckedFrom l.a l.e (small_at (image_of g.W.Word.BITS l.k (g.W.Word.words l.im))) l.ok l.g
