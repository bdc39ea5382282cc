use borrow.Author.Rules.{rules}
use Rattle.judge_laws.proofs.Objects.{card-comes}
use Rattle.covered_objects.proofs.objects.card_comes.Goals as goal

pub returns : goal.returns
returns g c = search (rules, card-comes)
