use Rattle.model.specs.Image.{image_of}
use Rattle.soundness_laws.specs.Small.{FullUpto}
use Rattle.targets.proofs.small.full_words.Given as goal

abbrev pub invariant-loop-n : goal.invariant-loop-n
invariant-loop-n g l = FullUpto g.W.Word.BITS l.k (image_of g.W.Word.BITS l.k (g.W.Word.words l.im)) l.n
