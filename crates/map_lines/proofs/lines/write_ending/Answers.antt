use native.Mathlib.Omega.{arith}
use lib.ListN.{length-set}
use Rattle.service_map_laws.proofs.Lines.{ending_written}
use Rattle.map_lines.proofs.lines.write_ending.Goals as goal

pub bounds-out-c-2 : goal.bounds-out-c-2
bounds-out-c-2 c = simp length-set (omega arith)

pub returns : goal.returns
returns c = search ending_written
