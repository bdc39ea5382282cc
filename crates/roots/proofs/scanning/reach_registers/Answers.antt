use borrow.Author.Rules.{rules}
use Rattle.collector_laws.proofs.Scanning.{scan_more}
use Rattle.roots.proofs.scanning.reach_registers.Goals as goal

pub loop-r-preserved : goal.loop-r-preserved
loop-r-preserved g c = search (rules, scan_more)
