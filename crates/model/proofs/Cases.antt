-- The table of cases holds, by computation.
use mathlib.Core.Path.{◌≡◌, refl}
use mathlib.Core.List.{map}
use Rattle.model.specs.Open.{model_open}
use Rattle.model.specs.Cases.{Row, cases, cases_open}

pub cases_hold : map (λ (r : Row). r.computed) cases ≡ map (λ (r : Row). r.said) cases
unfolding model_open cases_open
cases_hold = refl
