use Rattle.model.specs.Image.{image_of}
use Rattle.service_map_laws.proofs.Lines.{LinesTo}
use Rattle.map_lines.proofs.lines.draw.Given as goal

abbrev pub invariant-loop-c : goal.invariant-loop-c
invariant-loop-c g l = LinesTo (image_of g.W.Word.BITS l.k (g.W.Word.words l.im)) l.k l.initial.out l.out l.end l.c
