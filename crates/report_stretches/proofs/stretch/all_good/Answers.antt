use mathlib.Core.Path.{sym, ◌∙◌}
use mathlib.Core.Bool.{true}
use native.Mathlib.Omega.{arith}
use Rattle.soundness_laws.proofs.Checks.{checked_none, checked_more, checked_stop, checked_end}
use Rattle.report_laws.proofs.Stretch.{low_first, low_next}
use Rattle.report_stretches.proofs.stretch.all_good.Goals as goal

pub loop-i-init : goal.loop-i-init
loop-i-init g c = (checked_none, low_first _)

pub is_good-requires : goal.is_good-requires
is_good-requires g c = record { sized = c.requires.sized; sound = c.requires.sound; i_in_bounds = omega (arith, c.requires.c_in_bounds, c.loop-i-test.true); low_value = c.loop-i.invariant.1 }

pub returns-then-not-is_good : goal.returns-then-not-is_good
returns-then-not-is_good g c = checked_stop _ _ _ c.loop-i-test.true (sym c.is_good.ensures ∙ c.if-not-is_good.true)

pub loop-i-preserved : goal.loop-i-preserved
loop-i-preserved g c = (
  checked_more _ _ _ _ true c.loop-i.invariant.0 c.loop-i-test.true
      (sym c.if-not-is_good.false ∙ c.is_good.ensures),
  low_next _ _ _ c.end-low.ensures,
)

pub returns : goal.returns
returns g c = checked_end _ _ _ _ c.loop-i.invariant.0 c.loop-i-test.false
