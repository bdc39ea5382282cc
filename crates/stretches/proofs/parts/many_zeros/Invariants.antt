use Rattle.image_laws.specs.Parts.{both_zero}
use Rattle.image_laws.proofs.Compare.{Held}
use Rattle.stretches.proofs.parts.many_zeros.Given as goal

abbrev pub invariant-loop-i : goal.invariant-loop-i
invariant-loop-i g l = Held l.n (both_zero (g.W.Word.words l.s) l.h) l.ok l.i
