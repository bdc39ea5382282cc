use Rattle.model.specs.Image.{image_of}
use Rattle.tracers_laws.proofs.Marks.{MarksBelow}
use Rattle.tracer_words.proofs.marks.card_marks.Given as goal

abbrev pub invariant-loop-i : goal.invariant-loop-i
invariant-loop-i g l = MarksBelow g.W.Word.BITS (image_of g.W.Word.BITS l.k (g.W.Word.words l.im)) l.c l.i l.marks
