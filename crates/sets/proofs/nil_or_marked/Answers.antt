use borrow.Author.Rules.{rules}
use Rattle.soundness_laws.proofs.Sets.{marked_tabled, marked_asked}
use Rattle.sets.proofs.nil_or_marked.Goals as goal

pub returns-then-is_tabled : goal.returns-then-is_tabled
returns-then-is_tabled g c = search (rules, marked_tabled, g.met.W.Word.laws.cards)

pub returns : goal.returns
returns g c = search (rules, marked_asked)
