use borrow.Author.Rules.{rules}
use Rattle.judge_laws.proofs.Objects.{owes_no, owes_yes}
use Rattle.covered_objects.proofs.objects.is_owing.Goals as goal

pub returns-then-value-g : goal.returns-then-value-g
returns-then-value-g g c = search (rules, owes_no)

pub returns : goal.returns
returns g c = search (rules, owes_yes)
