-- The heap read by granule: objects and runs from a granule on, the run that new takes, unused granules and stretches of them.
use Rattle.std.specs.Prelude.{◌≡◌, ◌⊎◌, List, [], ◌∷◌, Bool, true, false, not, cond, ℕ, suc, ◌+◌, ◌*◌, ◌-◌, ◌≤◌, ◌<◌, leb, ltb}
use Rattle.model.specs.Base.{nth, all, any, every, sum_below, how_many}
use Rattle.model.specs.Image.{Image, granules, word, is_start, size}
use Rattle.model.specs.Map.{in_object}
use Rattle.theory.specs.Heap.{Bare}

-- the words from granule g on are those that rd reads
abbrev pub Reads : (ℕ → ℕ → ℕ) → ℕ → List ℕ → Type 0
Reads rd g ws = (h i : ℕ) → g ≤ h → nth ws (4 * (h - g) + i) ≡ rd h i

-- `st` says where objects start, `rd g i` is word i of granule g, `e` is the number of granules
module _ (st : ℕ → Bool) (rd : ℕ → ℕ → ℕ) (e : ℕ) where
  -- an object, or a run, stands at g
  pub record ObjectHere (g : ℕ) : Type 0 where
    pub starts : st g ≡ true
    pub long : 1 ≤ rd g 0
    pub few : rd g 0 ≤ 1024
    pub links_fit : rd g 1 + 2 ≤ 4 * rd g 0
    pub ends : g + rd g 0 ≤ e
    pub alone : Bare st g (rd g 0)

  pub record RunHere (g : ℕ) : Type 0 where
    pub no_start : st g ≡ false
    pub long : 1 ≤ rd g 0
    pub ends : g + rd g 0 ≤ e
    pub alone : Bare st g (rd g 0)
    pub zero_words : (i : ℕ) → 2 + i < 4 * rd g 0 → rd g (2 + i) ≡ 0

  -- pieces fill the granules from g on: `next` is the granule of the next run, or 0; the test says that a run ends at g
  pub data Pieces : ℕ → ℕ → Bool → Type 0 where
    at_end : {b : Bool} → Pieces e 0 b
    at_object : {g next : ℕ} {b : Bool} → ObjectHere g → Pieces (g + rd g 0) next false → Pieces g next b
    at_run : {g : ℕ} → RunHere g → Pieces (g + rd g 0) (rd g 1) true → Pieces g g false

  -- the same, up to a run of at least b granules: it is at r, and the run before it at `before`
  pub data Place (b : ℕ) : ℕ → ℕ → Bool → ℕ → ℕ → ℕ → Type 0 where
    past_object : {g next last r before : ℕ} {f : Bool} → ObjectHere g → Place b (g + rd g 0) next false last r before → Place b g next f last r before
    past_run : {g last r before : ℕ} → RunHere g → Place b (g + rd g 0) (rd g 1) true g r before → Place b g g false last r before
    place_here : {g last : ℕ} → RunHere g → b ≤ rd g 0 → Pieces (g + rd g 0) (rd g 1) true → Place b g g false last g last

-- ---- of an image

abbrev pub ObjectIn : Image → ℕ → Type 0
ObjectIn m = ObjectHere (is_start m) (word m) (granules m)

abbrev pub RunIn : Image → ℕ → Type 0
RunIn m = RunHere (is_start m) (word m) (granules m)

abbrev pub PiecesIn : Image → ℕ → ℕ → Bool → Type 0
PiecesIn m = Pieces (is_start m) (word m) (granules m)

abbrev pub PlaceIn : Image → ℕ → ℕ → ℕ → Bool → ℕ → ℕ → ℕ → Type 0
PlaceIn m b = Place (is_start m) (word m) (granules m) b

-- a run, with all objects before it or behind it
pub record RunApart (m : Image) (r : ℕ) : Type 0 where
  pub not_nil : 1 ≤ r
  pub is_run : RunIn m r
  pub apart : (h : ℕ) → is_start m h ≡ true → (h + size m h ≤ r) ⊎ (r + word m r 0 ≤ h)

-- objects that start below x end there
abbrev pub Clear : Image → ℕ → Type 0
Clear m x = (h : ℕ) → is_start m h ≡ true → h < x → h + size m h ≤ x

-- ---- "no b neighbouring granules free"

-- granule y is in no object
pub record Unused (m : Image) (y : ℕ) : Type 0 where
  pub in_range : (1 ≤ y) × (y < granules m)
  pub in_no_object : (h : ℕ) → is_start m h ≡ true → h ≤ y → y < h + size m h → ⊥

-- b neighbouring unused granules, the first of them g
abbrev pub Stretch : Image → ℕ → ℕ → Type 0
Stretch m b g = (y : ℕ) → g ≤ y → y < g + b → Unused m y

-- none starts from x on
abbrev pub Blocked : Image → ℕ → ℕ → Type 0
Blocked m b x = (u : ℕ) → x ≤ u → Stretch m b u → ⊥

-- granule y lies in a run, behind whose end stands an object or nothing: runs are joined
pub record InRun (m : Image) (y : ℕ) : Type 0 where
  pub run : ℕ
  pub run_apart : RunApart m run
  pub inside : (run ≤ y) × (y < run + word m run 0)
  pub joined : (run + word m run 0 ≡ granules m) ⊎ (is_start m (run + word m run 0) ≡ true)

-- ---- granules counted

-- the granules of the objects that are starts in st
abbrev pub sizes : (ℕ → Bool) → (ℕ → ℕ → ℕ) → ℕ → ℕ
sizes st rd g = cond (st g) (rd g 0) 0

unfoldable pub used_granules : Image → ℕ
used_granules m = sum_below (sizes (is_start m) (word m)) (granules m)

-- the number of granules that are in no object, granule 0 among them
unfoldable pub granules_outside : Image → ℕ
granules_outside m = sum_below (λ y. cond (in_object m y) 0 1) (granules m)

-- `Unused`, computed
unfoldable pub unused : Image → ℕ → Bool
unused m y = every (ltb 0 y ∷ ltb y (granules m) ∷ not (in_object m y) ∷ [])

-- the n granules from x on are a maximal stretch of unused ones
unfoldable pub is_stretch : Image → ℕ → ℕ → Bool
is_stretch m x n = every (all n (λ i. unused m (x + i)) ∷ not (unused m (x - 1)) ∷ not (unused m (x + n)) ∷ [])

-- granule y lies in a maximal stretch of at least so many unused granules
unfoldable pub in_stretch : ℕ → Image → ℕ → Bool
in_stretch least m y = any (suc y) (λ x. any (granules m) (λ n. every (leb least n ∷ ltb y (x + n) ∷ is_stretch m x n ∷ [])))

-- the number of granules that lie in one
unfoldable pub granules_in_stretches : ℕ → Image → ℕ
granules_in_stretches least m = how_many (in_stretch least m) (granules m)
