use borrow.Author.Rules.{rules}
use Rattle.model.specs.Image.{link}
use Rattle.soundness_laws.specs.Tests.{link_ok}
use Rattle.soundness_laws.proofs.Sets.{target_word}
use Rattle.targets.proofs.link_ok.Goals as goal

pub returns : goal.returns
unfolding link_ok link
returns g c = search (rules, target_word)
