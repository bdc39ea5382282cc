use Rattle.batch.proofs.batch.Goals as goal

pub returns : goal.returns
returns g c = rw c.result.ensures c.verdict.ensures
