use borrow.Author.Rules.{rules}
use native.Mathlib.Omega.{arith}
use Rattle.report_laws.proofs.Stretch.{good_none, good_low, good_past, good_whole}
use Rattle.report_stretches.proofs.stretch.is_good.Goals as goal

pub returns-then-n-eq0 : goal.returns-then-n-eq0
returns-then-n-eq0 g c = good_none _ _ _ _ _ _ _ _ c.requires.low_value c.start-a.ensures c.granules-n.ensures (omega arith)

pub returns-then-a-low : goal.returns-then-a-low
returns-then-a-low g c = good_low _ _ _ _ _ _ _ _ c.requires.low_value c.start-a.ensures c.granules-n.ensures c.if-n-eq0.false (omega arith)

pub returns-then-k-a : goal.returns-then-k-a
returns-then-k-a g c =
    good_past _ _ _ _ _ _ _ _ c.requires.low_value c.start-a.ensures c.granules-n.ensures c.if-n-eq0.false
    (omega arith) (omega arith)

pub returns : goal.returns
returns g c = search (rules, good_whole)
