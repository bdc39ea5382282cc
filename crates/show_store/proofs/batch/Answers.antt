use Rattle.model.specs.Batch.{batch_of}
use Rattle.show_store.proofs.batch.Goals as goal

pub returns : goal.returns
unfolding batch_of
returns c = c.batch.ensures
