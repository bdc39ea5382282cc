use Rattle.model.specs.Image.{image_of}
use Rattle.finish_marking_laws.specs.Marking.{work_left}
use Rattle.finish_marking_laws.proofs.follow.Settling.{WordSettled}
use Rattle.settled_objects.proofs.settling.settle_bits.Given as goal

abbrev pub invariant-loop-left : goal.invariant-loop-left
invariant-loop-left g l = WordSettled g.W.Word.BITS l.k (g.W.Word.words l.initial.im) l.head l.i (g.W.Word.words l.im) l.h l.left

abbrev pub decreases-loop-left : goal.decreases-loop-left
decreases-loop-left g l = work_left l.k (image_of g.W.Word.BITS l.k (g.W.Word.words l.im))
