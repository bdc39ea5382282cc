-- What each sign of the map says of its granule, by the objects and runs that fill the store.
use Rattle.std.specs.Prelude.{◌≡◌, ◌⊎◌, true, false, ℕ, ◌+◌, ◌<◌}
use Rattle.model.specs.Image.{Image, is_start, marked, size}
use Rattle.theory.specs.Pieces.{InRun}

-- "A sign is `.` for free or granule 0, `o` for an unmarked start, `#` for a marked start, `-` for the rest of an object."
pub data Shows (m : Image) (g : ℕ) : ℕ → Type 0 where
  is_free : (g ≡ 0) ⊎ InRun m g → Shows m g 46
  is_unmarked : is_start m g ≡ true → marked m g ≡ false → Shows m g 111
  is_marked : is_start m g ≡ true → marked m g ≡ true → Shows m g 35
  is_rest : (s : ℕ) → is_start m s ≡ true → s < g → g < s + size m s → Shows m g 45
