use Rattle.model.specs.Image.{image_of}
use Rattle.collector_laws.proofs.Scanning.{Scanning}
use Rattle.roots.proofs.scanning.reach_registers.Given as goal

abbrev pub invariant-loop-r : goal.invariant-loop-r
invariant-loop-r g l = Scanning (image_of g.W.Word.BITS l.k (g.W.Word.words l.initial.im)) l.t l.p l.r (image_of g.W.Word.BITS l.k (g.W.Word.words l.im))
