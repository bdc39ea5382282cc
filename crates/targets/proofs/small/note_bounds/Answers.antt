use Rattle.image.proofs.Words.{words_length}
use Rattle.soundness_laws.proofs.Small.{bounds_none, bounds_more, bounds_end}
use mathlib.Core.Path.{◌∙◌}
use native.Mathlib.Omega.{arith}
use Rattle.targets.proofs.small.note_bounds.Goals as goal

pub loop-i-init : goal.loop-i-init
loop-i-init g c = bounds_none _ _ _ (words_length g.met.W.Word.laws.by_value c.args.bounds.now ∙ c.requires)

pub loop-i-preserved : goal.loop-i-preserved
loop-i-preserved g c =
    rw (c.put_four-in-loop-i.ensures, c.put_four.ensures, c.BITS.ensures, c.of-zero.ensures, c.of-one.ensures, c.of-two.ensures)
    (bounds_more _ _ _ _ c.loop-i.invariant (omega arith))

pub returns : goal.returns
returns g c = bounds_end _ _ _ _ c.loop-i.invariant (omega arith)
