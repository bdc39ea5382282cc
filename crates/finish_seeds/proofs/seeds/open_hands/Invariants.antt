use Rattle.model.specs.Image.{image_of}
use Rattle.image_laws.specs.Digits.{mark_bit}
use Rattle.finish_marking_laws.specs.Seeds.{HandAt}
use Rattle.finish_marking_laws.proofs.seeds.Bared.{Opening}
use Rattle.finish_seeds.proofs.seeds.open_hands.Given as goal

abbrev pub invariant-loop-t : goal.invariant-loop-t
invariant-loop-t g l = Opening g.W.Word.BITS l.k 8 (HandAt (image_of g.W.Word.BITS l.k (g.W.Word.words l.initial.im)).tracers (mark_bit (image_of g.W.Word.BITS l.k (g.W.Word.words l.initial.im)))) (g.W.Word.words l.initial.im) (g.W.Word.words l.im) l.t
