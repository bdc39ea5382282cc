use mathlib.Core.Path.{refl}
use native.Mathlib.Omega.{arith}
use borrow.Author.Rules.{rules}
use Rattle.report_laws.proofs.Stretch.{walking_none, walking_out, walking_more, walking_some, walking_end}
use Rattle.report_stretches.proofs.stretch.is_whole.Goals as goal

pub loop-g-init : goal.loop-g-init
loop-g-init g c = (search (rules, walking_none), refl)

pub returns-then-not-is_start : goal.returns-then-not-is_start
returns-then-not-is_start g c = search (rules, walking_out)

pub loop-g-smaller : goal.loop-g-smaller
loop-g-smaller g c = omega (arith, walking_some _ _ _ c.requires.sound _ _ _ _ c.loop-g.invariant.0 _ c.is_start.ensures (search rules) _ c.word.ensures)

pub loop-g-preserved : goal.loop-g-preserved
loop-g-preserved g c = search (rules, walking_more)

pub returns : goal.returns
returns g c = search (rules, walking_end)
