use Rattle.model.specs.Image.{image_of}
use Rattle.image_laws.proofs.Loops.{Looped}
use Rattle.finish_laws.proofs.Ending.{StartsCopied}
use Prim.Native.Nat.{◌*◌, ◌/◌}
use mathlib.Core.Path.{◌≡◌}
use Rattle.ended_cycle.proofs.ending.keep_starts.Given as goal

abbrev pub invariant-loop-i : goal.invariant-loop-i
invariant-loop-i g l =
    let w = g.W.Word.BITS in
    let words = g.W.Word.words in
    Looped w l.k (64 * l.k / w) (StartsCopied w (image_of w l.k (words l.initial.im))) (words l.initial.im) (words l.im) l.i × (l.i-end ≡ 64 * l.k / w)
