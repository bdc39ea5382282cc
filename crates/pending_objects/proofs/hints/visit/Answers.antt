use borrow.Author.Rules.{rules}
use native.Mathlib.Omega.{arith}
use mathlib.Core.Path.{refl}
use Rattle.search_laws.proofs.hints.Visiting.{visit_again, visit_newly}
use Rattle.pending_objects.proofs.hints.visit.Goals as goal

pub returns-then-in_plane-clause-visited : goal.returns-then-in_plane-clause-visited
returns-then-in_plane-clause-visited g c = search (rules, visit_again)

pub returns-then-n-hints-clause-visited : goal.returns-then-n-hints-clause-visited
returns-then-n-hints-clause-visited g c = visit_newly _ _ _ _ _ _ c.in_plane.ensures c.if-in_plane.false _ _ _ _ c.add.ensures c.add-2.ensures refl (omega arith)

pub returns-clause-visited : goal.returns-clause-visited
returns-clause-visited g c = visit_newly _ _ _ _ _ _ c.in_plane.ensures c.if-in_plane.false _ _ _ _ c.add.ensures c.add-2.ensures refl (omega arith)
