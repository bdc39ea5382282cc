use mathlib.Core.Path.{◌≡◌}
use Prim.Native.Nat.{◌+◌, ◌-◌}
use Rattle.model.specs.Image.{image_of}
use Rattle.report_laws.proofs.Stretch.{Walking}
use Rattle.report_stretches.proofs.stretch.is_whole.Given as goal

abbrev pub invariant-loop-g : goal.invariant-loop-g
invariant-loop-g g l = Walking (image_of g.W.Word.BITS l.k (g.W.Word.words l.im)) l.a l.n l.e l.g × (l.e ≡ l.a + l.n)

abbrev pub decreases-loop-g : goal.decreases-loop-g
decreases-loop-g g l = l.e - l.g
