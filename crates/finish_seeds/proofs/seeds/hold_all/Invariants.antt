use Rattle.finish_marking_laws.proofs.seeds.Registers.{Holding}
use Rattle.finish_seeds.proofs.seeds.hold_all.Given as goal

abbrev pub invariant-loop-i : goal.invariant-loop-i
invariant-loop-i g l = Holding g.W.Word.BITS l.k (g.W.Word.words l.initial.im) (g.W.Word.words l.im) l.i
