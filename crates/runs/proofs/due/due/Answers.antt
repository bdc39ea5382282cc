use native.Mathlib.Omega.{arith}
use Rattle.runs_laws.proofs.Due.{due_yes, due_no}
use Rattle.runs.proofs.due.due.Goals as goal

pub returns-then-usable-a : goal.returns-then-usable-a
returns-then-usable-a g c m e = rw c.of.ensures (due_yes m _ _ e (omega arith))

pub returns : goal.returns
returns g c m e = rw c.of-2.ensures (due_no m _ _ e (omega arith))
