use Rattle.image.proofs.Words.{same_length}
use Rattle.image_laws.proofs.Loops.{looped_end}
use Rattle.finish_marking_laws.proofs.seeds.Bared.{hand_as, opening_more}
use native.Mathlib.Omega.{arith}
use borrow.Author.Rules.{rules}
use Rattle.finish_seeds.proofs.seeds.open_hands.Goals as goal

pub loop-t-preserved : goal.loop-t-preserved
loop-t-preserved g c = let L = c.loop-t in opening_more L.invariant (omega arith) (same_length g.met.W.Word.laws.by_value _ _ (search rules)) (hand_as L.invariant.state c.open_hand.ensures)

pub returns : goal.returns
returns g c = looped_end c.loop-t.invariant (omega arith)
