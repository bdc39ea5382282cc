use borrow.Author.Rules.{rules}
use Rattle.soundness_laws.proofs.Small.{small_is}
use Rattle.targets.proofs.small.is_small.Goals as goal

pub returns : goal.returns
returns g c = search (rules, small_is)
