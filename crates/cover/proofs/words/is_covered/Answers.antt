use borrow.Author.Rules.{rules}
use Rattle.judge_laws.proofs.Links.{marked_covered}
use Rattle.cover.proofs.words.is_covered.Goals as goal

pub returns-then-all_marked : goal.returns-then-all_marked
returns-then-all_marked g c = search (rules, marked_covered)
