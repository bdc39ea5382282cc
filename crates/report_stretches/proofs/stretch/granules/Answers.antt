use Rattle.report_laws.proofs.Stretch.{length_is}
use Rattle.report_stretches.proofs.stretch.granules.Goals as goal

pub returns : goal.returns
returns c = length_is _ _ _ c.pair.ensures
