use borrow.Author.Rules.{rules}
use Rattle.finish_marking_laws.proofs.seeds.Opening.{entry_none, entry_one}
use Rattle.opened_cards.proofs.opening.open_entry.Goals as goal

pub returns-then-i-lt2 : goal.returns-then-i-lt2
returns-then-i-lt2 g c = search (rules, entry_none)

pub returns : goal.returns
returns g c = search (rules, entry_one)
