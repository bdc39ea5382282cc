use Rattle.finish_laws.proofs.gaps.Bits.{Taking}
use Rattle.sweep.proofs.bits.sweep_bits.Given as goal

abbrev pub invariant-loop-x : goal.invariant-loop-x
invariant-loop-x g l = Taking g.W.Word.BITS l.k l.i l.initial.t.start l.initial.t.free (g.W.Word.words l.initial.im) l.x (g.W.Word.words l.im) l.t.start l.t.free

abbrev pub decreases-loop-x : goal.decreases-loop-x
decreases-loop-x g l = l.x
