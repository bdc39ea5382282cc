-- The size of a store by the number of its words: its cards, or none where no store has that length.
use Rattle.std.specs.Prelude.{Bool, true, false, ℕ, Option, Some, None}
use Rattle.model.specs.Image.{fits, cards_of}

unfoldable pub extent_by : Bool → ℕ → Option ℕ
extent_by true k = Some k
extent_by false k = None

-- with words of w bits
unfoldable pub extent_of : ℕ → ℕ → Option ℕ
extent_of w n = extent_by (fits w n) (cards_of w n)
