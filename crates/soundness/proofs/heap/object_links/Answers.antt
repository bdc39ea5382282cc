use borrow.Author.Rules.{rules}
use Rattle.soundness_laws.proofs.Heap.{links_object, inside_use, links_run}
use Rattle.soundness.proofs.heap.object_links.Goals as goal

pub links_ok-requires-clause-n_bound : goal.links_ok-requires-clause-n_bound
links_ok-requires-clause-n_bound g c = search (rules, inside_use)

pub returns-then-object : goal.returns-then-object
returns-then-object g c = search (rules, links_object)

pub returns : goal.returns
returns g c = search (rules, links_run)
