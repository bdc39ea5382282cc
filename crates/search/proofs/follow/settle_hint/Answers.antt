use borrow.Author.Rules.{rules}
use mathlib.Core.Path.{sym, ◌∙◌}
use Prim.Native.Nat.{zero-le}
use Rattle.image_laws.proofs.Digits.{digit_on}
use Rattle.search_laws.proofs.follow.Goes.{goes_none, goes_on}
use Rattle.search.proofs.follow.settle_hint.Goals as goal

pub returns-then-k-g-clause-goes : goal.returns-then-k-g-clause-goes
returns-then-k-g-clause-goes g c = goes_none c.requires.search

pub settle-requires-clause-g_bound : goal.settle-requires-clause-g_bound
settle-requires-clause-g_bound g c = (search rules, digit_on (sym c.in_plane.ensures ∙ c.if-in_plane.true))

pub returns-then-in_plane-clause-goes : goal.returns-then-in_plane-clause-goes
returns-then-in_plane-clause-goes g c = let E = c.settle.ensures.goes in goes_on 0 zero-le E (goes_none E.search)

pub returns-clause-goes : goal.returns-clause-goes
returns-clause-goes g c = goes_none c.requires.search
