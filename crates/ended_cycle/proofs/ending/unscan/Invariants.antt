use Rattle.model.specs.Image.{image_of, with_players}
use Rattle.image_laws.proofs.Loops.{Looped}
use Rattle.finish_laws.specs.Ending.{scanned_off_to}
use mathlib.Core.Path.{◌≡◌}
use Rattle.ended_cycle.proofs.ending.unscan.Given as goal

abbrev pub invariant-loop-p : goal.invariant-loop-p
invariant-loop-p g l =
    let w = g.W.Word.BITS in
    let words = g.W.Word.words in
    Looped w l.k 16 (λ m p. m ≡ with_players (image_of w l.k (words l.initial.im)) (scanned_off_to (image_of w l.k (words l.initial.im)).players p)) (words l.initial.im) (words l.im) l.p
