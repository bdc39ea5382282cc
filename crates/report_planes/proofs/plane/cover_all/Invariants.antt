use Rattle.report_laws.proofs.Plane.{CoveringAll}
use Rattle.report_planes.proofs.plane.cover_all.Given as goal

abbrev pub invariant-loop-i : goal.invariant-loop-i
invariant-loop-i g l = CoveringAll g.W.Word.BITS (g.W.Word.words l.initial.s) l.report l.c (g.W.Word.words l.s) l.i
