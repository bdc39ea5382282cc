use Rattle.model.specs.Image.{image_of}
use Rattle.image_laws.proofs.Loops.{Looped}
use Rattle.finish_marking_laws.proofs.seeds.Listing.{ListedTo}
use Rattle.finish_seeds.proofs.seeds.list_all.Given as goal

abbrev pub invariant-loop-c : goal.invariant-loop-c
invariant-loop-c g l = Looped g.W.Word.BITS l.k l.k (ListedTo (image_of g.W.Word.BITS l.k (g.W.Word.words l.initial.im))) (g.W.Word.words l.initial.im) (g.W.Word.words l.im) l.c
