use Rattle.model.specs.Image.{image_of}
use Rattle.search_laws.specs.Search.{Refilled, to_do, Goes}
use Prim.Native.Nat.{◌≤◌}
use mathlib.Core.Path.{◌≡◌}
use lib.ListN.{length}
use Rattle.search.proofs.follow.follow_all.Given as goal

abbrev pub invariant-loop-h : goal.invariant-loop-h
invariant-loop-h g l = Goes g.W.Word.BITS l.k (image_of g.W.Word.BITS l.k (g.W.Word.words l.im)) (g.W.Word.words l.initial.s) (g.W.Word.words l.s) 0 × Refilled g.W.Word.BITS l.k (g.W.Word.words l.s) (g.W.Word.words l.hints) l.h × (l.h ≤ length l.initial.hints) × (length l.hints ≡ length l.initial.hints) × (length l.s ≡ length l.initial.s)

abbrev pub decreases-loop-h : goal.decreases-loop-h
decreases-loop-h g l = to_do g.W.Word.BITS l.k (g.W.Word.words l.s)
