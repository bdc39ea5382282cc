-- The mark bits of a card in one word of 64 bits.
use Rattle.std.specs.Prelude.{◌≡◌, ℕ, ◌+◌, ◌*◌, ◌<◌, suc, Option, Some, None}
use Rattle.model.specs.Base.{test_bit}
use Rattle.model.specs.Image.{Image, marked}

-- a number that was looked for as the model gives it: 1 more; 0 if there is none
abbrev pub one_more : Option ℕ → ℕ
one_more None = 0
one_more (Some n) = suc n

-- bit j of x is the mark bit of the card's granule j
pub record CardMarks (m : Image) (c x : ℕ) : Type 0 where
  pub bits : (j : ℕ) → j < 64 → test_bit x j ≡ marked m (64 * c + j)
