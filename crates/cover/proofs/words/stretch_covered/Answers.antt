use borrow.Author.Rules.{rules}
use Rattle.judge_laws.proofs.Near.{near_covered}
use Rattle.cover.proofs.words.stretch_covered.Goals as goal

pub returns-then-is_near : goal.returns-then-is_near
returns-then-is_near g c = search (rules, near_covered)
