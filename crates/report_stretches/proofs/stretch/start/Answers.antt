use Rattle.report_laws.proofs.Stretch.{start_is}
use Rattle.report_stretches.proofs.stretch.start.Goals as goal

pub returns : goal.returns
returns c = start_is _ _ _ c.pair.ensures
