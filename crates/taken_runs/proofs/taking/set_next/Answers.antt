use borrow.Author.Rules.{rules}
use Rattle.mutator_laws.proofs.Taking.{set_next_first, set_next_after}
use Rattle.taken_runs.proofs.taking.set_next.Goals as goal

pub returns-then-before-eq0 : goal.returns-then-before-eq0
returns-then-before-eq0 g c = search (rules, set_next_first)

pub returns-else-before-eq0 : goal.returns-else-before-eq0
returns-else-before-eq0 g c = search (rules, set_next_after)
