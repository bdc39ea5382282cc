-- Reports by derivations, and a report with a stretch for each object that a finish freed.
use Rattle.std.specs.Prelude.{◌≡◌, Bool, true, not, cond, ◌&&◌, List, [], ◌∷◌, ◌++◌, ℕ, zero, suc, ◌+◌}
use Rattle.model.specs.Image.{Image, granules, is_start, size}
use Rattle.model.specs.Report.{stretch_record}

-- objects of m, one behind the other, from granule g to granule e
pub data Objects (m : Image) : ℕ → ℕ → Type 0 where
  no_more : {g e : ℕ} → g ≡ e → Objects m g e
  one_more : {g e : ℕ} → is_start m g ≡ true → Objects m (g + size m g) e → Objects m g e

-- the numbers from i to i + c - 1 that pass, in their order
unfoldable pub passing : (ℕ → Bool) → ℕ → ℕ → List ℕ
passing p i zero = []
passing p i (suc c) = let r = passing p (suc i) c in cond (p i) (i ∷ r) r

-- the object at a is gone after a finish that got m and left n
unfoldable pub gone_by : Image → Image → ℕ → Bool
gone_by m n a = is_start m a && not (is_start n a)

-- a stretch for each of these objects
unfoldable pub stretches_of : Image → List ℕ → List ℕ
stretches_of m [] = []
stretches_of m (a ∷ l) = stretch_record a (size m a) ++ stretches_of m l

abbrev pub gone_objects : Image → Image → List ℕ
gone_objects m n = passing (gone_by m n) 0 (granules m)
