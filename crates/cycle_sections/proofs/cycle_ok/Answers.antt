use borrow.Author.Rules.{rules}
use Rattle.soundness_laws.proofs.Lines.{cycle_yes}
use Rattle.cycle_sections.proofs.cycle_ok.Goals as goal

pub returns : goal.returns
returns g c = search (rules, cycle_yes)
