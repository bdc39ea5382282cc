use borrow.Author.Rules.{rules}
use Rattle.soundness_laws.proofs.Heap.{first_unused}
use Rattle.soundness.proofs.heap.first_unused.Goals as goal

pub returns : goal.returns
returns g c = search (rules, first_unused)
