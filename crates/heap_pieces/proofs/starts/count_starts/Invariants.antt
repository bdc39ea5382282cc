use Prim.Native.Nat.{◌*◌, ◌/◌}
use mathlib.Core.Path.{◌≡◌}
use Rattle.model.specs.Image.{image_of}
use Rattle.soundness_laws.proofs.Ones.{OnesCounted}
use Rattle.heap_pieces.proofs.starts.count_starts.Given as goal

abbrev pub invariant-loop-i : goal.invariant-loop-i
invariant-loop-i g l = let w = g.W.Word.BITS in OnesCounted w (image_of w l.k (g.W.Word.words l.im)).starts 0 (64 * l.k / w) l.n l.i × (l.i-end ≡ 64 * l.k / w)
