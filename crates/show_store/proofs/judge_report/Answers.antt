use Rattle.model.specs.Report.{report_of}
use Rattle.show_store.proofs.judge_report.Goals as goal

pub returns : goal.returns
unfolding report_of
returns c = c.judge_report.ensures
