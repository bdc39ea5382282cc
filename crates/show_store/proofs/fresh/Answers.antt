use Rattle.model.specs.Batch.{fresh_of}
use Rattle.show_store.proofs.fresh.Goals as goal

pub returns : goal.returns
unfolding fresh_of
returns c = c.fresh.ensures
