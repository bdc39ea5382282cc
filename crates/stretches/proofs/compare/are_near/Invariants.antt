use lib.ListN.{length}
use Rattle.image_laws.specs.Compare.{near_at}
use Rattle.image_laws.proofs.Compare.{Held}
use Rattle.stretches.proofs.compare.are_near.Given as goal

abbrev pub invariant-loop-i : goal.invariant-loop-i
invariant-loop-i g l = Held (length (g.W.Word.words l.s)) (near_at (g.W.Word.value l.from) (g.W.Word.value l.end) (g.W.Word.words l.s)) l.ok l.i
