use borrow.Author.Rules.{rules}
use Rattle.soundness_laws.proofs.Heap.{heap_no, heap_yes, unused}
use Rattle.soundness.proofs.heap.heap_ok.Goals as goal

pub returns-then-not-first_unused : goal.returns-then-not-first_unused
returns-then-not-first_unused g c = search (rules, heap_no)

pub walk-requires-clause-im_value : goal.walk-requires-clause-im_value
walk-requires-clause-im_value g c = search (rules, unused)

pub returns : goal.returns
returns g c = search (rules, heap_yes)
