use borrow.Author.Rules.{rules}
use Rattle.judge_laws.proofs.Objects.{inside_of, cov_plain, cov_coming, cov_late}
use Rattle.covered_objects.proofs.objects.object_covered.Goals as goal

pub all_plain-requires-clause-n_bound : goal.all_plain-requires-clause-n_bound
all_plain-requires-clause-n_bound g c = search (rules, inside_of)

pub returns-then-all_plain : goal.returns-then-all_plain
returns-then-all_plain g c = search (rules, cov_plain)

pub returns-then-is_coming : goal.returns-then-is_coming
returns-then-is_coming g c = search (rules, cov_coming)

pub all_late-requires-clause-n_bound : goal.all_late-requires-clause-n_bound
all_late-requires-clause-n_bound g c = search (rules, inside_of)

pub returns : goal.returns
returns g c = search (rules, cov_late)
