use Prim.Native.Nat.{◌+◌, ◌*◌}
use lib.ListN.{take, drop}
use Rattle.model.specs.Image.{image_of}
use Rattle.soundness_laws.proofs.Entered.{Looked}
use Rattle.entries.proofs.entered.in_packet.Given as goal

abbrev pub invariant-loop-e : goal.invariant-loop-e
invariant-loop-e g l = Looked l.g l.n (λ i. take i (drop (32 * l.p + 2) (image_of g.W.Word.BITS l.k (g.W.Word.words l.im)).packets)) l.found l.e
