use Rattle.soundness_laws.proofs.Sets.{Filled}
use Rattle.sets.proofs.note.Given as goal

abbrev pub invariant-loop-c : goal.invariant-loop-c
invariant-loop-c g l = Filled g.W.Word.BITS l.k (g.W.Word.words l.bits) l.table l.c
