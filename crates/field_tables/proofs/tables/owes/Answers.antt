use borrow.Author.Rules.{rules}
use Rattle.request_laws.proofs.Tables.{debt_owes, debt_none}
use mathlib.Core.Path.{sym, ◌∙◌}
use Rattle.field_tables.proofs.tables.owes.Goals as goal

pub owed-requires : goal.owed-requires
owed-requires g c = record { sized = c.requires.sized; p_bound = c.requires.x_bound (sym c.asks_debt.ensures ∙ c.if-asks_debt.true) }

pub returns-then-asks_debt : goal.returns-then-asks_debt
returns-then-asks_debt g c = search (rules, debt_owes)

pub returns : goal.returns
returns g c = search (rules, debt_none)
