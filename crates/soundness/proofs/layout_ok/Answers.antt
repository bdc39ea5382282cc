use borrow.Author.Rules.{rules}
use Rattle.soundness_laws.proofs.Lines.{layout_is}
use Rattle.soundness.proofs.layout_ok.Goals as goal

pub returns : goal.returns
returns g c = search (rules, layout_is)
