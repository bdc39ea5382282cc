use borrow.Author.Rules.{rules}
use Rattle.soundness_laws.proofs.Pieces.{next_of_object, next_of_run}
use Rattle.heap_pieces.proofs.pieces.next_run.Goals as goal

pub returns-then-object : goal.returns-then-object
returns-then-object g c = search (rules, next_of_object)

pub returns : goal.returns
returns g c = search (rules, next_of_run)
