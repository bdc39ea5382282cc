-- Stretches of marked granules, and bit words whose objects link to none but those of their stretch.
use Rattle.std.specs.Prelude.{◌≡◌, Bool, true, [], ◌∷◌, ℕ, ◌+◌, ◌*◌, ◌-◌, ◌≤◌, ◌<◌, leb, take, drop}
use Rattle.model.specs.Base.{every}
use Rattle.model.specs.Image.{Image, marked, links}
use Rattle.image_laws.specs.Compare.{near}

-- No heap word of bit word i is more than 2, but for granules of the words from `from` to i; and an object at the last granule of word i has
-- at most two links.
unfoldable pub near_word : ℕ → Image → ℕ → ℕ → Bool
near_word w m from i = every (leb (links m (w * i + w - 1)) 2 ∷ near (w * from) (w * i + w) (take (4 * w) (drop (4 * (w * i)) m.heap)) ∷ [])

-- the granules of the bit words from `from` on and before `end` are marked; so are granules 1 and 2, where there is such a word
pub record MarkedStretch (w : ℕ) (m : Image) (from end : ℕ) : Type 0 where
  pub are_marked : (g : ℕ) → w * from ≤ g → g < w * end → marked m g ≡ true
  pub low : from < end → (marked m 1 ≡ true) × (marked m 2 ≡ true)
