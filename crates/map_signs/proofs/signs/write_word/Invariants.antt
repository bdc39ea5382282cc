use Prim.Native.Nat.{◌*◌}
use Rattle.model.specs.Image.{image_of}
use Rattle.service_map_laws.proofs.Signs.{SignsTo}
use Rattle.map_signs.proofs.signs.write_word.Given as goal

abbrev pub invariant-loop-j : goal.invariant-loop-j
invariant-loop-j g l = SignsTo (image_of g.W.Word.BITS l.k (g.W.Word.words l.im)) g.W.Word.BITS l.at (g.W.Word.BITS * l.x) 1 l.initial.out l.out l.last l.j
