use Prim.Native.Nat.{◌*◌}
use Rattle.model.specs.Image.{image_of}
use Rattle.soundness_laws.proofs.Entered.{EntriesHeld}
use Rattle.entries.proofs.entered.packet_once.Given as goal

abbrev pub invariant-loop-e : goal.invariant-loop-e
invariant-loop-e g l = EntriesHeld (64 * l.k) (image_of g.W.Word.BITS l.k (g.W.Word.words l.im)).packets l.p l.n l.ok l.e l.seen
