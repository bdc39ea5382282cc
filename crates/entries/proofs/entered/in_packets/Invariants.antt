use Rattle.model.specs.Image.{image_of, entries_of}
use Rattle.soundness_laws.proofs.Entered.{Looked}
use Rattle.entries.proofs.entered.in_packets.Given as goal

abbrev pub invariant-loop-p : goal.invariant-loop-p
invariant-loop-p g l = Looked l.g l.n (λ i. entries_of i (image_of g.W.Word.BITS l.k (g.W.Word.words l.im)).packets) l.found l.p
