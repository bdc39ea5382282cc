use Rattle.finish_laws.proofs.gaps.Code.{run_done}
use Rattle.swept_gaps.proofs.gaps.run_at.Goals as goal

pub returns : goal.returns
returns g c = run_done _ _ _ _ c.first_run-next.ensures _ _ _ (rw c.of.ensures at c.set_head.ensures) c.clear_behind.ensures (rw c.of-2.ensures at c.set_first_run.ensures)
