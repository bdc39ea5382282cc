use borrow.Author.Rules.{rules}
use Rattle.soundness_laws.proofs.Pieces.{rest_none, rest_more, rest_end}
use Rattle.heap_pieces.proofs.pieces.zero_rest.Goals as goal

pub loop-i-init : goal.loop-i-init
loop-i-init g c = search (rules, rest_none)

pub loop-i-preserved : goal.loop-i-preserved
loop-i-preserved g c = search (rules, rest_more)

pub returns : goal.returns
returns g c = search (rules, rest_end)
