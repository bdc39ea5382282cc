use Rattle.model.specs.Image.{image_of}
use Rattle.soundness_laws.proofs.Pieces.{RestZero}
use Rattle.heap_pieces.proofs.pieces.zero_rest.Given as goal

abbrev pub invariant-loop-i : goal.invariant-loop-i
invariant-loop-i g l = RestZero (image_of g.W.Word.BITS l.k (g.W.Word.words l.im)).heap l.g l.s l.ok l.i
