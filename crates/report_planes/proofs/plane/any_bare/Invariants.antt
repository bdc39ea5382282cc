use Rattle.model.specs.Image.{image_of}
use Rattle.soundness_laws.proofs.Checks.{Sought}
use Rattle.report_laws.specs.Plane.{bare_word}
use Prim.Native.Nat.{◌*◌, ◌/◌}
use mathlib.Core.Path.{◌≡◌}
use Rattle.report_planes.proofs.plane.any_bare.Given as goal

abbrev pub invariant-loop-i : goal.invariant-loop-i
invariant-loop-i g l = Sought (64 * l.k / g.W.Word.BITS) (bare_word g.W.Word.BITS (image_of g.W.Word.BITS l.k (g.W.Word.words l.im)) (g.W.Word.words l.s)) l.found l.i × (l.i-end ≡ 64 * l.k / g.W.Word.BITS)
