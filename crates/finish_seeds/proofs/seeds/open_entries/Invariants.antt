use Rattle.model.specs.Image.{image_of}
use Rattle.finish_marking_laws.specs.Seeds.{EnteredAt}
use Rattle.finish_marking_laws.proofs.seeds.Bared.{Opening}
use Rattle.finish_seeds.proofs.seeds.open_entries.Given as goal

abbrev pub invariant-loop-i : goal.invariant-loop-i
invariant-loop-i g l = Opening g.W.Word.BITS l.k 1024 (EnteredAt (image_of g.W.Word.BITS l.k (g.W.Word.words l.initial.im)).packets) (g.W.Word.words l.initial.im) (g.W.Word.words l.im) l.i
