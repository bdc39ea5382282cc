use Rattle.finish_laws.proofs.gaps.Bits.{Sweeping}
use Rattle.sweep.proofs.bits.sweep_all.Given as goal

abbrev pub invariant-loop-i : goal.invariant-loop-i
invariant-loop-i g l = Sweeping g.W.Word.BITS l.k (g.W.Word.words l.initial.im) (g.W.Word.words l.im) l.s.start l.s.free l.i
