use borrow.Author.Rules.{rules}
use Rattle.finish_marking_laws.proofs.seeds.Opening.{dirty_some, dirty_none}
use Rattle.opened_cards.proofs.opening.open_dirty.Goals as goal

pub returns-then-is_dirty : goal.returns-then-is_dirty
returns-then-is_dirty g c = search (rules, dirty_some)

pub returns-else-is_dirty : goal.returns-else-is_dirty
returns-else-is_dirty g c = search (rules, dirty_none)
