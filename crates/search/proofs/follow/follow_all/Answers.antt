use borrow.Author.Rules.{rules}
use Prim.Native.Nat.{zero-le}
use native.Mathlib.Omega.{arith}
use Rattle.search_laws.proofs.follow.Goes.{goes_none, goes_on}
use Rattle.search.proofs.follow.follow_all.Goals as goal

pub loop-h-init : goal.loop-h-init
loop-h-init g c = (goes_none c.requires.search, c.refill-h.ensures.refilled, search rules, search rules, search rules)

pub pass-requires-clause-search : goal.pass-requires-clause-search
pass-requires-clause-search g c = c.loop-h.invariant.0.search

pub pass-requires-clause-last_pending : goal.pass-requires-clause-last_pending
pass-requires-clause-last_pending g c = c.loop-h.invariant.1.last (omega arith)

pub loop-h-smaller : goal.loop-h-smaller
loop-h-smaller g c = omega (arith, c.pass.ensures.down)

pub loop-h-preserved : goal.loop-h-preserved
loop-h-preserved g c = (goes_on 0 zero-le c.loop-h.invariant.0 c.pass.ensures, c.refill-h-in-loop-h.ensures.refilled, search rules, search rules, search rules)

pub returns-clause-goes : goal.returns-clause-goes
returns-clause-goes g c = c.loop-h.invariant.0

pub returns-clause-none_pending : goal.returns-clause-none_pending
returns-clause-none_pending g c = c.loop-h.invariant.1.none (omega arith)
