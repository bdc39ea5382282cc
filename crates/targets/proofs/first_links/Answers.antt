use borrow.Author.Rules.{rules}
use Rattle.soundness_laws.proofs.Checks.{first_two}
use Rattle.targets.proofs.first_links.Goals as goal

pub returns : goal.returns
returns g c = search (rules, first_two)
