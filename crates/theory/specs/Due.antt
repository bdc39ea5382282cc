-- What two rules of kind 14 may make of a step.
use Rattle.std.specs.Prelude.{◌≡◌}
use Rattle.model.specs.Records.{Kind, is_due}
use Rattle.model.specs.Steps.{Done}

-- "no other answer moves": the same image, the same number, and the same value but for kind 14
pub record SameButDue (n : Kind) (d e : Done) : Type 0 where
  pub same_image : d.image ≡ e.image
  pub same_number : d.number ≡ e.number
  pub same_value : (n ≡ is_due → ⊥) → d.value ≡ e.value
