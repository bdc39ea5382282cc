use Prim.Native.Nat.{◌*◌}
use Rattle.service_map_laws.proofs.Lines.{HeadingTo}
use Rattle.map_lines.proofs.lines.write_heading.Given as goal

abbrev pub invariant-loop-j : goal.invariant-loop-j
invariant-loop-j g l = HeadingTo (73 * l.c) l.c (g.W.Word.value l.s) l.initial.out l.out l.j
