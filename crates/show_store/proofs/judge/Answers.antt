use Rattle.model.specs.Batch.{judge_of}
use Rattle.show_store.proofs.judge.Goals as goal

pub returns : goal.returns
unfolding judge_of
returns c = c.judge.ensures
