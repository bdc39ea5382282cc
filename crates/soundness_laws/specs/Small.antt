-- Objects of one granule, side by side, and the bounds that their words keep.
use Rattle.std.specs.Prelude.{◌≡◌, Bool, true, List, [], ◌∷◌, ℕ, ◌+◌, ◌*◌, ◌/◌, ◌≤◌, ◌<◌, min, eqb, leb, length}
use Rattle.model.specs.Base.{nth, put, all, every}
use Rattle.model.specs.Image.{Image, word, links, is_start}
use Rattle.model.specs.Undamaged.{nil_or_start}
use Rattle.soundness_laws.specs.Tests.{link_ok}

-- the object at g has one granule and at most two links, which are in order
unfoldable pub small_at : Image → ℕ → Bool
small_at m g = every (eqb (word m g 0) 1 ∷ leb (links m g) 2 ∷ all (min 2 (links m g)) (link_ok m g) ∷ [])

-- the granules from a to e - 1 hold such objects
pub record SmallFrom (m : Image) (a e : ℕ) : Type 0 where
  pub small : (g : ℕ) → a ≤ g → g < e → small_at m g ≡ true

-- so do those from granule 1 on, and they are starts, in a heap of k cards
pub record SmallUpto (k : ℕ) (m : Image) (e : ℕ) : Type 0 where
  pub low : 1 ≤ e
  pub high : e ≤ 64 * k
  pub starts : (g : ℕ) → 1 ≤ g → g < e → is_start m g ≡ true
  pub objects : SmallFrom m 1 e

-- the granules of the first n bit words of w bits are starts, but granule 0, in a heap of k cards
pub record FullUpto (w k : ℕ) (m : Image) (n : ℕ) : Type 0 where
  pub within : n ≤ 64 * k / w
  pub starts : (g : ℕ) → 1 ≤ g → g < w * n → is_start m g ≡ true

-- ---- bounds of the words of such an object, whose links are at most `top`

unfoldable pub least_at : ℕ → ℕ
least_at j = nth (1 ∷ 0 ∷ 0 ∷ 0 ∷ []) j

unfoldable pub most_at : ℕ → ℕ → ℕ
most_at top j = nth (1 ∷ 2 ∷ top ∷ top ∷ []) j

-- four words written from place o on
unfoldable pub put_four : List ℕ → ℕ → ℕ → ℕ → ℕ → ℕ → List ℕ
put_four l o a b c d = put (put (put (put l o a) (o + 1) b) (o + 2) c) (o + 3) d

-- those of n objects, of w: the least words of all, then the greatest
pub record Bounds (w top n : ℕ) (l : List ℕ) : Type 0 where
  pub within : n ≤ w
  pub long : length l ≡ 8 * w
  pub least : (i j : ℕ) → i < n → j < 4 → nth l (4 * i + j) ≡ least_at j
  pub most : (i j : ℕ) → i < n → j < 4 → nth l (4 * w + 4 * i + j) ≡ most_at top j

-- those of a bit word full of objects, where links up to some number are in order
pub record LinkBounds (w : ℕ) (m : Image) (l : List ℕ) : Type 0 where
  pub top : ℕ
  pub targets : (a : ℕ) → a ≤ top → nil_or_start m a ≡ true
  pub bounds : Bounds w top w l
