use Rattle.std.proofs.Common.{refl}
use native.Mathlib.Numerals.{add-one}
use Rattle.model.specs.Base.{any}
use Rattle.quantifiers.proofs.any.Goals as goal

pub loop-i-init : goal.loop-i-init
unfolding any
loop-i-init g c p h = refl

pub loop-i-preserved : goal.loop-i-preserved
unfolding any
loop-i-preserved g c p h = rw add-one (rw (c.loop-i.invariant p h, h _ _ c.loop-i-test.true c.test-found.ensures) refl)
