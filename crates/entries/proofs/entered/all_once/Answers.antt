use borrow.Author.Rules.{rules}
use Rattle.soundness_laws.proofs.Entered.{packets_none, packets_end}
use Rattle.entries.proofs.entered.all_once.Goals as goal

pub loop-p-init : goal.loop-p-init
loop-p-init g c = search (rules, packets_none)

pub returns : goal.returns
returns g c = search (rules, packets_end)
