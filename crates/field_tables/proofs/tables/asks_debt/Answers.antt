use borrow.Author.Rules.{rules}
use Rattle.request_laws.specs.Request.{tables_open}
use Rattle.request_laws.proofs.Tables.{debt_at, no_debt}
use Rattle.field_tables.proofs.tables.asks_debt.Goals as goal

pub returns-in-0 : goal.returns-in-0
unfolding tables_open
returns-in-0 c = search (rules, debt_at)

pub returns-in-2 : goal.returns-in-2
unfolding tables_open
returns-in-2 c = search (rules, debt_at)

pub returns-in_default : goal.returns-in_default
unfolding tables_open
returns-in_default c = search (rules, no_debt)
