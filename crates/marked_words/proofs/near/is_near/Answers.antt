use borrow.Author.Rules.{rules}
use Rattle.judge_laws.proofs.Near.{near_no, near_yes}
use Rattle.marked_words.proofs.near.is_near.Goals as goal

pub returns-then-links-gt2 : goal.returns-then-links-gt2
returns-then-links-gt2 g c = search (rules, near_no)

pub returns : goal.returns
returns g c = search (rules, near_yes)
