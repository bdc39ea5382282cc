-- What a call returns and leaves, as the model's record; and its lengths: the cards of the images, or a misfit.
use Rattle.std.specs.Prelude.{not, List, ℕ, length}
use Rattle.model.specs.Image.{cards_of}
use Rattle.model.specs.Report.{Reported, report_misfit}
use Rattle.image_laws.specs.Size.{extent_by}
use Rattle.std.specs.Prelude.{Option}

abbrev pub reported_of : ℕ → List ℕ → Reported
reported_of r scratch = record { result = r; scratch = scratch }

unfoldable pub report_extent : ℕ → List ℕ → List ℕ → List ℕ → List ℕ → Option ℕ
report_extent w fs ss bs scratch = extent_by (not (report_misfit w fs ss bs scratch)) (cards_of w (length fs))
