use borrow.Author.Rules.{rules}
use Rattle.judge_laws.proofs.Objects.{late_plain, late_more}
use Rattle.covered_objects.proofs.objects.is_late.Goals as goal

pub returns-then-is_plain : goal.returns-then-is_plain
returns-then-is_plain g c = search (rules, late_plain)

pub returns : goal.returns
returns g c = search (rules, late_more)
