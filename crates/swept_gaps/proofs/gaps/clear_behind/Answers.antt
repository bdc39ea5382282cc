use borrow.Author.Rules.{rules}
use Rattle.finish_laws.proofs.gaps.Code.{behind_none}
use Rattle.swept_gaps.proofs.gaps.clear_behind.Goals as goal

pub returns-else-a-e : goal.returns-else-a-e
returns-else-a-e g c = search (rules, behind_none)
