use Rattle.model.specs.Image.{image_of}
use Rattle.soundness_laws.specs.Small.{SmallUpto}
use Prim.Native.Nat.{◌*◌, ◌-◌}
use Rattle.targets.proofs.small.small_words.Given as goal

abbrev pub invariant-loop-g : goal.invariant-loop-g
invariant-loop-g g l = SmallUpto l.k (image_of g.W.Word.BITS l.k (g.W.Word.words l.im)) l.g

abbrev pub decreases-loop-g : goal.decreases-loop-g
decreases-loop-g g l = g.W.Word.BITS * l.n - l.g
