use Rattle.search_laws.proofs.follow.Settling.{LinksDone}
use Rattle.model.specs.Image.{image_of}
use Prim.Native.Nat.{◌≤◌}
use mathlib.Core.Path.{◌≡◌}
use lib.ListN.{length}
use Rattle.search.proofs.follow.settle.Given as goal

abbrev pub invariant-loop-i : goal.invariant-loop-i
invariant-loop-i g l = LinksDone g.W.Word.BITS l.k (image_of g.W.Word.BITS l.k (g.W.Word.words l.im)) (g.W.Word.words l.initial.s) l.n l.g l.c (g.W.Word.words l.s) l.h l.i × (l.h ≤ length l.initial.hints) × (length l.hints ≡ length l.initial.hints) × (length l.s ≡ length l.initial.s)
