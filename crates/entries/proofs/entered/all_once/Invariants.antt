use Prim.Native.Nat.{◌*◌}
use Rattle.model.specs.Image.{image_of}
use Rattle.soundness_laws.proofs.Entered.{PacketsHeld}
use Rattle.entries.proofs.entered.all_once.Given as goal

abbrev pub invariant-loop-p : goal.invariant-loop-p
invariant-loop-p g l = PacketsHeld (64 * l.k) (image_of g.W.Word.BITS l.k (g.W.Word.words l.im)).packets l.ok l.p l.seen
