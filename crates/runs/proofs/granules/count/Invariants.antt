use Rattle.runs_laws.proofs.Chain.{chain_measure}
use Rattle.runs_laws.proofs.Granules.{CountingFree}
use Rattle.model.specs.Image.{granules, image_of}
use Rattle.runs.proofs.granules.count.Given as goal

abbrev pub invariant-loop-g : goal.invariant-loop-g
invariant-loop-g g l = CountingFree (image_of g.W.Word.BITS l.k (g.W.Word.words l.im)) l.f l.g

abbrev pub decreases-loop-g : goal.decreases-loop-g
decreases-loop-g g l = chain_measure (granules (image_of g.W.Word.BITS l.k (g.W.Word.words l.im))) l.g
