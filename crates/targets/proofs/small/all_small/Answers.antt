use borrow.Author.Rules.{rules}
use Rattle.soundness_laws.proofs.Checks.{from_none, from_more}
use Rattle.targets.proofs.small.all_small.Goals as goal

pub loop-g-init : goal.loop-g-init
loop-g-init g c = search (rules, from_none)

pub loop-g-preserved : goal.loop-g-preserved
loop-g-preserved g c = search (rules, from_more)
