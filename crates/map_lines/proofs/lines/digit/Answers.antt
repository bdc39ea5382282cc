use mathlib.Core.Path.{refl}
use Rattle.model.specs.Map.{decimal}
use Rattle.map_lines.proofs.lines.digit.Goals as goal

pub returns : goal.returns
unfolding decimal
returns c = refl
