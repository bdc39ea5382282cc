use borrow.Author.Rules.{rules}
use Rattle.judge_laws.proofs.Objects.{plain_is}
use Rattle.covered_objects.proofs.objects.is_plain.Goals as goal

pub returns : goal.returns
returns g c = search (rules, plain_is)
