-- The entries of packets, and sets that hold them as bits of words of 64 bits.
use Rattle.std.specs.Prelude.{◌≡◌, Bool, true, false, ◌||◌, List, [], ◌∷◌, ◌++◌, ℕ, ◌+◌, ◌*◌, ◌/◌, ◌%◌, ◌<◌, eqb, length, take, drop}
use Rattle.model.specs.Base.{elem, distinct, bit}
use Rattle.model.specs.Image.{Image, entries_of, entries}
use Rattle.soundness_laws.specs.Tests.{Packed}

-- the entries of some packets, up to entry e of packet p
unfoldable pub entries_upto : List ℕ → ℕ → ℕ → List ℕ
entries_upto ps p e = entries_of p ps ++ take e (drop (32 * p + 2) ps)

-- how many granules a set tells apart: a granule's bit is that of its remainder
abbrev pub apart : ℕ
apart = 32768

-- the words of such a set
abbrev pub set_words : ℕ
set_words = apart / 64

-- a granule of the list has the bit of g
unfoldable pub shares_bit : ℕ → List ℕ → Bool
shares_bit g [] = false
shares_bit g (x ∷ l) = eqb (g % apart) (x % apart) || shares_bit g l

-- the set holds the granules of the list, which lie below n, and no other bit
pub record Holding (n : ℕ) (l set : List ℕ) : Type 0 where
  pub long : length set ≡ set_words
  pub below : (g : ℕ) → elem g l ≡ true → g < n
  pub just : (g : ℕ) → bit 64 set (g % apart) ≡ shares_bit g l

-- besides, `ok` says that none of them stands there twice
pub record HoldingOnce (n : ℕ) (l : List ℕ) (ok : Bool) (set : List ℕ) : Type 0 where
  pub holding : Holding n l set
  pub once : ok ≡ distinct l

-- the set holds the entries of the packets of k cards
pub record EnteredSet (k : ℕ) (m : Image) (set : List ℕ) : Type 0 where
  pub packed : Packed m
  pub holding : Holding (64 * k) (entries m) set
