use Prim.Native.Nat.{◌+◌, ◌*◌}
use Rattle.model.specs.Image.{image_of}
use Rattle.service_map_laws.proofs.Signs.{SignsTo}
use Rattle.map_signs.proofs.signs.write_signs.Given as goal

abbrev pub invariant-loop-i : goal.invariant-loop-i
invariant-loop-i g l = SignsTo (image_of g.W.Word.BITS l.k (g.W.Word.words l.im)) g.W.Word.CARD_BITS (73 * l.c + 7) (64 * l.c) g.W.Word.BITS l.initial.out l.out l.last l.i
