use Prim.Native.Nat.{◌*◌, ◌-◌}
use Rattle.soundness_laws.proofs.Heap.{HeapWalk}
use Rattle.soundness.proofs.heap.walk.Given as goal

abbrev pub invariant-loop-g : goal.invariant-loop-g
invariant-loop-g g l = HeapWalk g.W.Word.BITS l.k (g.W.Word.words l.im) l.g l.next l.end l.seen

abbrev pub decreases-loop-g : goal.decreases-loop-g
decreases-loop-g g l = 64 * l.k - l.g
