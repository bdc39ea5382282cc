use borrow.Author.Rules.{rules}
use Rattle.model.specs.Undamaged.{reg_ok}
use Rattle.soundness_laws.proofs.Sets.{target_word}
use Rattle.targets.proofs.reg_ok.Goals as goal

pub returns : goal.returns
unfolding reg_ok
returns g c = search (rules, target_word)
