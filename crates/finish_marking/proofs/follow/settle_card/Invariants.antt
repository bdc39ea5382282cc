use Rattle.model.specs.Image.{image_of}
use Rattle.image_laws.proofs.Loops.{Looped}
use Rattle.finish_marking_laws.proofs.follow.Loops.{CardSettled}
use Prim.Native.Nat.{◌/◌}
use Rattle.finish_marking.proofs.follow.settle_card.Given as goal

abbrev pub invariant-loop-i : goal.invariant-loop-i
invariant-loop-i g l = Looped g.W.Word.BITS l.k (64 / g.W.Word.BITS) (CardSettled g.W.Word.BITS l.k (image_of g.W.Word.BITS l.k (g.W.Word.words l.initial.im)) l.c l.head l.h) (g.W.Word.words l.initial.im) (g.W.Word.words l.im) l.i
