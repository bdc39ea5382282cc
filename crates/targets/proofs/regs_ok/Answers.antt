use borrow.Author.Rules.{rules}
use Rattle.soundness_laws.proofs.Checks.{checked_none, checked_more}
use Rattle.targets.proofs.regs_ok.Goals as goal

pub loop-i-init : goal.loop-i-init
loop-i-init g c = checked_none

pub loop-i-preserved : goal.loop-i-preserved
loop-i-preserved g c = search (rules, checked_more)
