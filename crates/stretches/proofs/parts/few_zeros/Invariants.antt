use lib.ListN.{length}
use Rattle.image_laws.specs.Parts.{is_zero}
use Rattle.image_laws.proofs.Compare.{Held}
use Rattle.stretches.proofs.parts.few_zeros.Given as goal

abbrev pub invariant-loop-i : goal.invariant-loop-i
invariant-loop-i g l = Held (length (g.W.Word.words l.s)) (is_zero (g.W.Word.words l.s)) l.ok l.i
