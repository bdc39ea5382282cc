use Rattle.search_laws.proofs.hints.Refill.{Hinting}
use Prim.Native.Nat.{◌-◌, ◌≤◌}
use mathlib.Core.Path.{◌≡◌}
use lib.ListN.{length}
use Rattle.pending_objects.proofs.hints.hint_word.Given as goal

abbrev pub invariant-loop-x : goal.invariant-loop-x
invariant-loop-x g l = Hinting g.W.Word.BITS l.i (g.W.Word.value l.fn.word) (g.W.Word.words l.initial.hints) l.n (g.W.Word.words l.hints) l.x l.h × (l.h ≤ length l.hints) × (length l.hints ≡ length l.initial.hints)

abbrev pub decreases-loop-x : goal.decreases-loop-x
decreases-loop-x g l = length l.initial.hints - l.h
