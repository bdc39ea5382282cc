use Rattle.model.specs.Image.{image_of}
use Rattle.image_laws.proofs.Loops.{Looped}
use Rattle.finish_marking_laws.proofs.follow.Settling.{LinksDone}
use Rattle.settled_objects.proofs.settling.settle.Given as goal

abbrev pub invariant-loop-i : goal.invariant-loop-i
invariant-loop-i g l = Looped g.W.Word.BITS l.k l.n (LinksDone l.k (image_of g.W.Word.BITS l.k (g.W.Word.words l.initial.im)) l.head l.g l.n l.h) (g.W.Word.words l.initial.im) (g.W.Word.words l.im) l.i
