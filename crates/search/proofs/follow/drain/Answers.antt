use borrow.Author.Rules.{rules}
use Prim.Native.Nat.{zero-le}
use Rattle.search_laws.proofs.follow.Goes.{goes_none, goes_on}
use Rattle.search.proofs.follow.drain.Goals as goal

pub loop-h-init : goal.loop-h-init
loop-h-init g c = (goes_none c.requires.search, search rules, search rules, search rules)

pub settle_hint-h-requires-clause-search : goal.settle_hint-h-requires-clause-search
settle_hint-h-requires-clause-search g c = c.loop-h.invariant.0.search

pub loop-h-preserved : goal.loop-h-preserved
loop-h-preserved g c = (goes_on 0 zero-le c.loop-h.invariant.0 c.settle_hint-h.ensures.goes, search rules, search rules, search rules)
