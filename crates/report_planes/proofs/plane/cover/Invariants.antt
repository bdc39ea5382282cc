use Rattle.report_laws.proofs.Plane.{Covering}
use Rattle.report_planes.proofs.plane.cover.Given as goal

abbrev pub invariant-loop-j : goal.invariant-loop-j
invariant-loop-j g l = Covering g.W.Word.BITS (g.W.Word.words l.initial.s) l.a l.n (g.W.Word.words l.s) l.j
