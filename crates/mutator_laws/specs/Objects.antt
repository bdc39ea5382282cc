-- Kinds 2, 3, 7 and 8: the word of an object that a record means, by its kind's place in the table.
use Rattle.std.specs.Prelude.{◌≡◌, ℕ}
use Rattle.model.specs.Image.{Image, links, levels, reg}
use Rattle.model.specs.Records.{Step}
use Rattle.model.specs.Rows.{Field, Target, link_at, level_at, field_of}

-- the record means word i of object g, which has l such words
pub data Means (m : Image) (s : Step) : Target → ℕ → ℕ → ℕ → Type 0 where
  means_link : {x y : Field} {g l i : ℕ} → g ≡ reg m s.who (field_of s x) → l ≡ links m g → i ≡ field_of s y → Means m s (link_at x y) g l i
  means_level : {x y : Field} {g l i : ℕ} → g ≡ reg m s.who (field_of s x) → l ≡ levels m g → i ≡ field_of s y → Means m s (level_at x y) g l i
