use borrow.Author.Rules.{rules}
use Rattle.soundness_laws.proofs.Pieces.{piece_object, piece_run}
use Rattle.heap_pieces.proofs.pieces.piece_ok.Goals as goal

pub returns-then-object : goal.returns-then-object
returns-then-object g c = search (rules, piece_object)

pub returns : goal.returns
returns g c = search (rules, piece_run)
