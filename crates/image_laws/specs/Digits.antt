-- Bits as digits 0 and 1, so that what holds of them is arithmetic.
use Rattle.std.specs.Prelude.{Bool, cond, ℕ}
use Rattle.model.specs.Base.{test_bit}
use Rattle.model.specs.Image.{Image, is_start, marked}

unfoldable pub digit : Bool → ℕ
digit b = cond b 1 0

-- bit j of a word
abbrev pub bit_of : ℕ → ℕ → ℕ
bit_of x j = digit (test_bit x j)

abbrev pub mark_bit : Image → ℕ → ℕ
mark_bit m g = digit (marked m g)

abbrev pub start_bit : Image → ℕ → ℕ
start_bit m g = digit (is_start m g)
