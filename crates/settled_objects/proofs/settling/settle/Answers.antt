use mathlib.Core.Path.{◌∙◌}
use Rattle.image.proofs.Words.{same_length}
use Rattle.image_laws.proofs.Loops.{looped_none, looped_more, looped_end}
use Rattle.finish_marking_laws.proofs.follow.Settling.{links_none, links_target, links_more, links_end}
use native.Mathlib.Omega.{arith}
use borrow.Author.Rules.{rules}
use Rattle.settled_objects.proofs.settling.settle.Goals as goal

pub loop-i-init : goal.loop-i-init
loop-i-init g c = looped_none c.requires.sized (links_none _ _ _ _ _ (omega arith) c.links-n.ensures)

pub visit-h-requires : goal.visit-h-requires
visit-h-requires g c = let L = c.loop-i in record { sized = search rules; a_bound = (links_target L.invariant.state _ (c.value-a.ensures.value ∙ c.word.ensures) c.requires.links_in (omega arith), omega (arith, L.invariant.state.high)) }

pub loop-i-preserved : goal.loop-i-preserved
loop-i-preserved g c = let L = c.loop-i in looped_more L.invariant (omega arith) (same_length g.met.W.Word.laws.by_value _ _ (search rules)) (links_more L.invariant.state _ (c.value-a.ensures.value ∙ c.word.ensures) _ _ c.visit-h.ensures.im_after c.visit-h.ensures.upper_bound)

pub returns : goal.returns
returns g c = let L = c.loop-i in record { im_after = links_end (looped_end L.invariant (omega arith)) _ c.set_start.ensures; upper_bound = omega (arith, L.invariant.state.high) }
