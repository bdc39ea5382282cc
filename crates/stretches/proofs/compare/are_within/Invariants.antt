use lib.ListN.{length}
use Rattle.image_laws.specs.Compare.{between}
use Rattle.image_laws.proofs.Compare.{Held}
use Rattle.stretches.proofs.compare.are_within.Given as goal

abbrev pub invariant-loop-i : goal.invariant-loop-i
invariant-loop-i g l = let words = g.W.Word.words in Held (length (words l.s)) (between (words l.low) (words l.high) (words l.s)) l.ok l.i
