use native.Mathlib.Omega.{arith}
use Rattle.theory.proofs.heap.Sums.{no_more}
use Rattle.runs_laws.proofs.Granules.{free_grown}
use Rattle.runs.proofs.granules.grow.Goals as goal

pub overflow_add-result-2 : goal.overflow_add-result-2
overflow_add-result-2 c = record { fits = omega (arith, c.requires, no_more _ _ _ c.usable_of.ensures) }

pub returns : goal.returns
returns c = search free_grown
