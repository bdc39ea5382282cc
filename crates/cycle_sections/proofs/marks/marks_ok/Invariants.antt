use Rattle.model.specs.Image.{image_of}
use Rattle.model.specs.Undamaged.{mark_ok}
use Rattle.image_laws.proofs.Parts.{Gathered}
use Rattle.soundness_laws.specs.Tests.{wordwise}
use Rattle.cycle_sections.proofs.marks.marks_ok.Given as goal

abbrev pub invariant-loop-c : goal.invariant-loop-c
invariant-loop-c g l = Gathered l.k (wordwise 64 (mark_ok (image_of g.W.Word.BITS l.k (g.W.Word.words l.im)))) l.bad l.c
