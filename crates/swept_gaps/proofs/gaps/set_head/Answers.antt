use borrow.Author.Rules.{rules}
use Rattle.finish_laws.specs.Gaps.{head_at}
use Rattle.swept_gaps.proofs.gaps.set_head.Goals as goal

pub returns : goal.returns
unfolding head_at
returns g c = search rules
