use mathlib.Core.Path.{◌≡◌}
use mathlib.Core.Bool.{true}
use Rattle.model.specs.Image.{image_of}
use Rattle.model.specs.Report.{lowest_start, good_stretch}
use Rattle.soundness_laws.proofs.Checks.{Checked}
use Rattle.report_stretches.proofs.stretch.all_good.Given as goal

abbrev pub invariant-loop-i : goal.invariant-loop-i
invariant-loop-i g l = Checked l.c (good_stretch (image_of g.W.Word.BITS l.k (g.W.Word.words l.im)) l.report) true l.i × (l.low ≡ lowest_start l.report l.i)
