-- What a sweep from granule g on leaves: the words behind its free granules fill the heap, and kept words stay.
use Rattle.std.specs.Prelude.{◌≡◌, Bool, true, false, List, ℕ, ◌+◌, ◌*◌, ◌-◌, ◌≤◌, ◌<◌, length}
use Rattle.model.specs.Base.{nth}
use Rattle.model.specs.Finish.{Swept}
use Rattle.theory.specs.Heap.{Filled}

-- the words from granule g on are l many, and what starts in `keep` is kept
pub record SweptOk (keep : ℕ → Bool) (g l : ℕ) (r : Swept) : Type 0 where
  pub behind : Filled keep (g + r.free) r.rest r.next true
  pub free_bare : (h : ℕ) → g ≤ h → h < g + r.free → keep h ≡ false
  pub long : 4 * r.free + length r.rest ≡ l

-- the object at h lies behind the free granules in front, and its word i is as it was
unfoldable pub Stays : ℕ → List ℕ → Swept → ℕ → ℕ → Type 0
Stays g ws r h i = (g + r.free ≤ h) × (nth r.rest (4 * (h - (g + r.free)) + i) ≡ nth ws (4 * (h - g) + i))
