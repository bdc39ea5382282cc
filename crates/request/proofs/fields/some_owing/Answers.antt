use borrow.Author.Rules.{rules}
use native.Mathlib.Omega.{arith}
use Rattle.theory.specs.Fields.{field_at}
use Rattle.request_laws.specs.Request.{requested}
use Rattle.request_laws.proofs.Fields.{owing_found, debtor_below}
use Rattle.request.proofs.fields.some_owing.Goals as goal

pub owes-w-requires-clause-x_bound : goal.owes-w-requires-clause-x_bound
unfolding requested field_at
owes-w-requires-clause-x_bound g c = rw (c.from-n.ensures.0, ← c.requires.named) (debtor_below _ _ c.requires.on_desk 0 (omega arith))

pub owes-a-requires-clause-x_bound : goal.owes-a-requires-clause-x_bound
unfolding requested field_at
owes-a-requires-clause-x_bound g c = rw (c.from-n.ensures.0, ← c.requires.named) (debtor_below _ _ c.requires.on_desk 1 (omega arith))

pub owes-b-requires-clause-x_bound : goal.owes-b-requires-clause-x_bound
unfolding requested field_at
owes-b-requires-clause-x_bound g c = rw (c.from-n.ensures.0, ← c.requires.named) (debtor_below _ _ c.requires.on_desk 2 (omega arith))

pub owes-c-requires-clause-x_bound : goal.owes-c-requires-clause-x_bound
unfolding requested field_at
owes-c-requires-clause-x_bound g c = rw (c.from-n.ensures.0, ← c.requires.named) (debtor_below _ _ c.requires.on_desk 3 (omega arith))

pub returns : goal.returns
unfolding requested field_at
returns g c = search (rules, owing_found)
