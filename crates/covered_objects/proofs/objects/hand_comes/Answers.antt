use borrow.Author.Rules.{rules}
use Rattle.judge_laws.proofs.Objects.{hand-comes}
use Rattle.covered_objects.proofs.objects.hand_comes.Goals as goal

pub returns : goal.returns
returns g c = search (rules, hand-comes)
