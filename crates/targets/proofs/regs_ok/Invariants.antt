use Rattle.model.specs.Image.{image_of}
use Rattle.model.specs.Undamaged.{reg_ok}
use Rattle.soundness_laws.proofs.Checks.{Checked}
use Rattle.targets.proofs.regs_ok.Given as goal

abbrev pub invariant-loop-i : goal.invariant-loop-i
invariant-loop-i g l = Checked l.n (reg_ok (image_of g.W.Word.BITS l.k (g.W.Word.words l.im))) l.ok l.i
