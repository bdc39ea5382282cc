use Rattle.model.specs.Image.{image_of}
use Rattle.image_laws.specs.Digits.{mark_bit}
use Rattle.finish_marking_laws.specs.Seeds.{DirtyAt}
use Rattle.finish_marking_laws.proofs.seeds.Bared.{Opening}
use Rattle.finish_seeds.proofs.seeds.open_dirties.Given as goal

abbrev pub invariant-loop-c : goal.invariant-loop-c
invariant-loop-c g l = Opening g.W.Word.BITS l.k l.k (DirtyAt (image_of g.W.Word.BITS l.k (g.W.Word.words l.initial.im)).cards (mark_bit (image_of g.W.Word.BITS l.k (g.W.Word.words l.initial.im)))) (g.W.Word.words l.initial.im) (g.W.Word.words l.im) l.c
