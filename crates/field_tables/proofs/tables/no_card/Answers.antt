use borrow.Author.Rules.{rules}
use Rattle.request_laws.proofs.Tables.{card_found}
use Rattle.field_tables.proofs.tables.no_card.Goals as goal

pub returns : goal.returns
returns c = rw c.from.ensures.0 (search (rules, card_found))
