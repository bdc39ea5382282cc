use Rattle.model.specs.Image.{granules, image_of}
use Rattle.runs_laws.specs.Chain.{room_of}
use Rattle.runs_laws.proofs.Chain.{Walk, chain_measure}
use Rattle.runs.proofs.chain.find_room.Given as goal

abbrev pub invariant-loop-g : goal.invariant-loop-g
invariant-loop-g g l = Walk (image_of g.W.Word.BITS l.k (g.W.Word.words l.im)) l.b (room_of l.best) l.least l.before l.g

abbrev pub decreases-loop-g : goal.decreases-loop-g
decreases-loop-g g l = chain_measure (granules (image_of g.W.Word.BITS l.k (g.W.Word.words l.im))) l.g
