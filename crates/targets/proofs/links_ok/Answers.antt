use borrow.Author.Rules.{rules}
use Rattle.soundness_laws.proofs.Checks.{checked_more}
use Rattle.targets.proofs.links_ok.Goals as goal

pub loop-i-preserved : goal.loop-i-preserved
loop-i-preserved g c = search (rules, checked_more)
