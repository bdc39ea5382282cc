use mathlib.Core.Path.{◌≡◌}
use mathlib.Core.List.{◌++◌}
use lib.ListN.{length, drop, replicate}
use Rattle.stretches.proofs.clearing.clear.Given as goal

abbrev pub invariant-loop-i : goal.invariant-loop-i
invariant-loop-i g l = (g.W.Word.words l.s ≡ replicate l.i 0 ++ drop l.i (g.W.Word.words l.initial.s)) × (length l.s ≡ length l.initial.s) × (l.i-end ≡ length l.initial.s)
