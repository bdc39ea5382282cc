use Rattle.image.proofs.Words.{same_length}
use Rattle.image_laws.proofs.Loops.{looped_end}
use Rattle.finish_marking_laws.proofs.seeds.Bared.{dirty_as, opening_more}
use native.Mathlib.Omega.{arith}
use borrow.Author.Rules.{rules}
use Rattle.finish_seeds.proofs.seeds.open_dirties.Goals as goal

pub loop-c-preserved : goal.loop-c-preserved
loop-c-preserved g c = let L = c.loop-c in opening_more L.invariant (omega arith) (same_length g.met.W.Word.laws.by_value _ _ (search rules)) (dirty_as L.invariant.state c.open_dirty.ensures)

pub returns : goal.returns
returns g c = looped_end c.loop-c.invariant (omega arith)
