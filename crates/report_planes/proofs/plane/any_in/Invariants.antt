use Rattle.model.specs.Base.{bit}
use Rattle.report_laws.specs.Plane.{some_in}
use Rattle.soundness_laws.proofs.Checks.{Sought}
use Rattle.report_planes.proofs.plane.any_in.Given as goal

abbrev pub invariant-loop-i : goal.invariant-loop-i
invariant-loop-i g l = Sought l.c (some_in (bit g.W.Word.BITS (g.W.Word.words l.s)) l.report) l.found l.i
