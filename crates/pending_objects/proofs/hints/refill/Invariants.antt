use Rattle.search_laws.proofs.hints.Refill.{HintsUpto}
use Prim.Native.Nat.{◌<◌}
use mathlib.Core.Path.{◌≡◌}
use lib.ListN.{length}
use Rattle.pending_objects.proofs.hints.refill.Given as goal

abbrev pub invariant-loop-i : goal.invariant-loop-i
invariant-loop-i g l = HintsUpto g.W.Word.BITS l.k (g.W.Word.words l.s) l.p (g.W.Word.words l.hints) l.n l.i × (l.n < length l.initial.hints) × (length l.hints ≡ length l.initial.hints)
