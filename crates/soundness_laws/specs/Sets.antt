-- Sets of granules in tables of words of 64 bits: one for each card. An image's bit words have w bits.
use Rattle.std.specs.Prelude.{◌≡◌, ◌||◌, List, ℕ, ◌+◌, ◌*◌, ◌/◌, ◌<◌, eqb, length}
use Rattle.model.specs.Base.{test_bit, bit}

-- x has the bits that the bit words `ws` have for the granules of card c
pub record CardBits (w : ℕ) (ws : List ℕ) (c x : ℕ) : Type 0 where
  pub each : (j : ℕ) → j < 64 → test_bit x j ≡ bit w ws (64 * c + j)

-- how many words there are in a table with a bit for every number of 16 bits
abbrev pub table_words : ℕ
table_words = 65536 / 64

-- the table says of each number that it has a bit for whether that is nil or has a bit in the bit words `ws`
pub record Named (w : ℕ) (ws table : List ℕ) : Type 0 where
  pub long : length table ≡ table_words
  pub bits : (a : ℕ) → a / 64 < table_words → bit 64 table a ≡ (eqb a 0 || bit w ws a)
