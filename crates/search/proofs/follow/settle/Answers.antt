use borrow.Author.Rules.{rules}
use mathlib.Core.Path.{◌∙◌}
use native.Mathlib.Omega.{arith}
use Rattle.search_laws.proofs.follow.Settling.{links_none, links_target, links_more, links_end, links_fall}
use Rattle.search.proofs.follow.settle.Goals as goal

pub loop-i-init : goal.loop-i-init
loop-i-init g c = (links_none _ _ _ _ _ _ _ _ (omega arith) c.requires.sound c.requires.search c.requires.g_bound.0 c.requires.g_bound.1 c.links-c.ensures, search rules, search rules, search rules)

pub visit-h-requires-clause-a_bound : goal.visit-h-requires-clause-a_bound
visit-h-requires-clause-a_bound g c = links_target c.loop-i.invariant.0 (c.value-a.ensures.value ∙ c.word.ensures) c.loop-i-test.true

pub loop-i-preserved : goal.loop-i-preserved
loop-i-preserved g c = (links_more c.loop-i.invariant.0 (c.value-a.ensures.value ∙ c.word.ensures) c.loop-i-test.true c.visit-h.ensures.visited, omega (arith, c.visit-h.ensures.upper_bound), search rules, search rules)

pub returns-clause-goes : goal.returns-clause-goes
returns-clause-goes g c = links_end c.loop-i.invariant.0 c.loop-i-test.false c.take_out.ensures

pub returns-clause-result_bound : goal.returns-clause-result_bound
returns-clause-result_bound g c = links_fall c.loop-i.invariant.0 c.loop-i-test.false c.take_out.ensures
