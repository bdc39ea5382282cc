use Rattle.model.specs.Image.{image_of}
use Rattle.finish_marking_laws.specs.Marking.{work_left}
use Rattle.finish_marking_laws.proofs.follow.Loops.{TurnLoop}
use Rattle.finish_marking.proofs.follow.mark_all.Given as goal

abbrev pub invariant-loop-h : goal.invariant-loop-h
invariant-loop-h g l = TurnLoop g.W.Word.BITS l.k (g.W.Word.words l.initial.im) (g.W.Word.words l.im) l.h l.later

abbrev pub decreases-loop-h : goal.decreases-loop-h
decreases-loop-h g l = work_left l.k (image_of g.W.Word.BITS l.k (g.W.Word.words l.im))
