use Prim.Native.Nat.{◌*◌, ◌/◌}
use Rattle.model.specs.Image.{image_of}
use Rattle.soundness_laws.specs.Tests.{wordwise}
use Rattle.soundness_laws.proofs.Checks.{Checked}
use Rattle.judge_laws.specs.Order.{object_covered}
use Rattle.judge_laws.specs.Near.{MarkedStretch}
use Rattle.cover.proofs.words.all_covered.Given as goal

abbrev pub invariant-loop-i : goal.invariant-loop-i
invariant-loop-i g l = Checked (64 * l.k / g.W.Word.BITS) (wordwise g.W.Word.BITS (object_covered (image_of g.W.Word.BITS l.k (g.W.Word.words l.im)))) l.ok l.i × MarkedStretch g.W.Word.BITS (image_of g.W.Word.BITS l.k (g.W.Word.words l.im)) l.from l.i
