-- Links asked all at once, by the bits of the objects.
use Rattle.std.specs.Prelude.{Bool, ℕ, eqb}
use Rattle.model.specs.Base.{nth}
use Rattle.model.specs.Image.{Image}

-- bit word i has the same starts and marks
unfoldable pub same_word : Image → ℕ → Bool
same_word m i = eqb (nth m.starts i) (nth m.marks i)
