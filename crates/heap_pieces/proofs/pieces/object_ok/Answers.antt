use borrow.Author.Rules.{rules}
use Rattle.soundness_laws.proofs.Pieces.{object_is}
use Rattle.heap_pieces.proofs.pieces.object_ok.Goals as goal

pub returns : goal.returns
returns g c = search (rules, object_is)
