-- The heap by derivations: objects and runs fill it; what that gives of one object; links and registers are nil or starts.
use Rattle.std.specs.Prelude.{◌≡◌, Bool, true, false, List, [], ◌∷◌, ◌++◌, ℕ, suc, ◌+◌, ◌*◌, ◌-◌, ◌/◌, ◌≤◌, ◌<◌, length, drop}
use Rattle.model.specs.Base.{nth}
use Rattle.model.specs.Image.{Image, granules, is_start, marked, size, links, link, reg, first_run}
use Rattle.model.specs.Finish.{run_tail}

-- the words of an object of s granules behind its first word
pub record ObjectPiece (s : ℕ) (ws : List ℕ) : Type 0 where
  pub long : suc (length ws) ≡ 4 * s
  pub few : s ≤ 1024
  pub links_fit : nth ws 0 ≤ 4 * s - 2

-- the words of a run of suc n granules
abbrev pub run_words : ℕ → ℕ → List ℕ
run_words n next = suc n ∷ run_tail n next

-- no start behind g among the s granules from g on
abbrev pub Bare : (ℕ → Bool) → ℕ → ℕ → Type 0
Bare st g s = (h : ℕ) → g < h → h < g + s → st h ≡ false

-- pieces fill the granules from g on: the model's `fill`, one constructor a piece
pub data Filled (st : ℕ → Bool) : ℕ → List ℕ → ℕ → Bool → Type 0 where
  f_end : {g : ℕ} {b : Bool} → Filled st g [] 0 b
  f_object : {g next : ℕ} {b : Bool} (s : ℕ) (ws rest : List ℕ) → st g ≡ true → ObjectPiece s ws → Bare st g s
      → Filled st (g + s) rest next false → Filled st g ((s ∷ ws) ++ rest) next b
  f_run : {g : ℕ} (n next : ℕ) (rest : List ℕ) → st g ≡ false → Bare st g (suc n)
      → Filled st (g + suc n) rest next true → Filled st g (run_words n next ++ rest) g false

-- the heap of an image is filled
pub record HeapFilled (m : Image) : Type 0 where
  pub heap_words : length m.heap ≡ 4 * granules m
  pub heap_filled : Filled (is_start m) 1 (drop 4 m.heap) (first_run m) false
  pub start_range : (g : ℕ) → is_start m g ≡ true → (1 ≤ g) × (g < granules m)

-- the words that new and finish write are there
pub record HeapSized (m : Image) : Type 0 where
  pub some_granules : 1 ≤ granules m
  pub start_words : (g : ℕ) → g < granules m → g / m.width < length m.starts
  pub general_words : 2 ≤ length m.general

-- the object at a start
pub record ObjectAt (m : Image) (g : ℕ) : Type 0 where
  pub sized : 1 ≤ size m g
  pub links-in : links m g + 2 ≤ 4 * size m g
  pub in_heap : g + size m g ≤ granules m
  pub none_inside : (h : ℕ) → g < h → h < g + size m g → is_start m h ≡ false

-- objects do not overlap, and links lie inside
pub record Laid (m : Image) : Type 0 where
  pub apart : (g h : ℕ) → is_start m g ≡ true → is_start m h ≡ true → g < h → g + size m g ≤ h
  pub inside : (g : ℕ) → is_start m g ≡ true → (links m g + 2 ≤ 4 * size m g) × (g + size m g ≤ granules m)
  pub heap_length : length m.heap ≡ 4 * granules m
  pub marks_start : (g : ℕ) → marked m g ≡ true → is_start m g ≡ true

-- links and registers are nil or starts, marks stand on starts
pub record Proper (m : Image) : Type 0 where
  pub reg_start : (p r : ℕ) → p < 16 → r < 16 → (reg m p r ≡ 0 → ⊥) → is_start m (reg m p r) ≡ true
  pub link_start : (g i : ℕ) → is_start m g ≡ true → i < links m g → (link m g i ≡ 0 → ⊥) → is_start m (link m g i) ≡ true
  pub mark_start : (g : ℕ) → marked m g ≡ true → is_start m g ≡ true
