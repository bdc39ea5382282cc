use Rattle.image.proofs.Words.{same_length}
use Rattle.image_laws.proofs.Lengths.{cards_words}
use Rattle.image_laws.proofs.Loops.{looped_more, looped_end}
use Rattle.finish_marking_laws.proofs.seeds.Listing.{listed_more, listed_end}
use native.Mathlib.Omega.{arith}
use borrow.Author.Rules.{rules}
use Rattle.finish_seeds.proofs.seeds.list_all.Goals as goal

pub loop-c-preserved : goal.loop-c-preserved
loop-c-preserved g c = let L = c.loop-c in looped_more L.invariant (omega arith) (same_length g.met.W.Word.laws.by_value _ _ (search rules)) (listed_more _ _ _ _ L.invariant.state (omega (arith, cards_words L.invariant.sized)) (rw c.of.ensures at c.set_card.ensures))

pub returns : goal.returns
returns g c = let L = c.loop-c in listed_end (looped_end L.invariant (omega arith)) (cards_words L.invariant.sized)
