-- The one opener: what an `unfolding model_open` line needs to compute fresh stores, verdicts, batches, maps, verdicts on reports, finishes, histories and the plain store.
use Rattle.std.specs.Prelude.{ℕ}
use Rattle.model.specs.Undamaged.{undamaged_open}
use Rattle.model.specs.Records.{records_open}
use Rattle.model.specs.Mutate.{mutate_open}
use Rattle.model.specs.Collect.{collect_open}
use Rattle.model.specs.Finish.{finish_open}
use Rattle.model.specs.Steps.{steps_open}
use Rattle.model.specs.Batch.{batch_open}
use Rattle.model.specs.Map.{map_open}
use Rattle.model.specs.Report.{report_open}
use Rattle.model.specs.Plain.{plain_open}
use Rattle.model.specs.Claim.{claim_open}
use Rattle.model.specs.Bound.{bound_open}
use Rattle.model.specs.BothRules.{both_rules_open}
use Rattle.model.specs.OwnReport.{own_report_open}

unfoldable pub model_open : ℕ
unfolding undamaged_open records_open mutate_open collect_open finish_open steps_open batch_open map_open report_open plain_open claim_open bound_open both_rules_open own_report_open
model_open = 0
