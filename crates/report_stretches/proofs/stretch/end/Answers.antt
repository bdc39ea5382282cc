use Rattle.report_laws.proofs.Stretch.{end_is}
use Rattle.report_stretches.proofs.stretch.end.Goals as goal

pub returns : goal.returns
returns c = search end_is
