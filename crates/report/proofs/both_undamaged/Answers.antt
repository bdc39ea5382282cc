use borrow.Author.Rules.{rules}
use Rattle.report_laws.proofs.Calls.{first_damaged, by_second}
use Rattle.report.proofs.both_undamaged.Goals as goal

pub returns-then-is_undamaged : goal.returns-then-is_undamaged
returns-then-is_undamaged c = search (rules, by_second)

pub returns-else-is_undamaged : goal.returns-else-is_undamaged
returns-else-is_undamaged c = search (rules, first_damaged)
