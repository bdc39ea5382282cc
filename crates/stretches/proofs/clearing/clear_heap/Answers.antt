use Rattle.stretches.proofs.Words.{heap_cleared}
use Rattle.stretches.proofs.clearing.clear_heap.Goals as goal

pub returns : goal.returns
returns g c = heap_cleared g.met.W.Word.laws.by_value _ _ _ _ c.requires.sized _ _ c.requires.a_le_e.0 c.requires.a_le_e.1 c.clear.ensures
