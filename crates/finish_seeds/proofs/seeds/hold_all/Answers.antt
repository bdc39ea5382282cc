use Rattle.image.proofs.Words.{same_length}
use Rattle.image_laws.proofs.Loops.{looped_end}
use Rattle.finish_marking_laws.proofs.seeds.Registers.{holding_more}
use native.Mathlib.Omega.{arith}
use borrow.Author.Rules.{rules}
use Rattle.finish_seeds.proofs.seeds.hold_all.Goals as goal

pub loop-i-preserved : goal.loop-i-preserved
loop-i-preserved g c = let L = c.loop-i in holding_more L.invariant (omega arith) (same_length g.met.W.Word.laws.by_value _ _ (search rules)) c.hold.ensures

pub returns : goal.returns
returns g c = looped_end c.loop-i.invariant (omega arith)
