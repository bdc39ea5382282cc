-- What a finish that keeps a set leaves of the heap; what the finish of the rule does.
use Rattle.std.specs.Prelude.{◌≡◌, ◌⊎◌, ◌↔◌, Bool, true, false, List, ℕ, ◌+◌, ◌*◌, ◌≤◌, ◌<◌, length, get_or}
use Rattle.model.specs.Base.{nth}
use Rattle.model.specs.Image.{Image, word, is_start, size}
use Rattle.model.specs.Mutate.{free_granules}
use Rattle.model.specs.Finish.{Finish, Kept}
use Rattle.model.specs.Claim.{Chain, Same}
use Rattle.theory.specs.Heap.{HeapFilled, HeapSized, Proper}
use Rattle.theory.specs.Pieces.{Unused, InRun}

pub record FinishMade (m : Image) (keep : List Bool) (f : Finish) : Type 0 where
  pub filled : HeapFilled f.image
  pub sized : HeapSized f.image
  pub starts : (g : ℕ) → is_start f.image g ≡ get_or keep g false
  pub words : (g i : ℕ) → get_or keep g false ≡ true → i < 4 * size m g → word f.image g i ≡ word m g i
  pub grown : f.value + free_granules m ≡ free_granules f.image
  pub granule_zero : (i : ℕ) → i < 4 → nth f.image.heap i ≡ nth m.heap i
  pub starts_length : length f.image.starts ≡ length m.starts
  pub general_length : length f.image.general ≡ length m.general
  pub general_word : (i : ℕ) → (i ≡ 0 → ⊥) → (i ≡ 1 → ⊥) → nth f.image.general i ≡ nth m.general i
  pub not_running : nth f.image.general 0 ≡ 0

-- What a finish does by its rule, on every image that is undamaged but for Cover.
pub record FinishRule (m : Image) (f : Finish) : Type 0 where
  -- "It keeps all marked objects and all that it finds": these and no other objects are left
  pub starts_are : (g : ℕ) → (is_start f.image g ≡ true) ↔ (is_start m g ≡ true) × Kept m g
  -- every word of a kept object stays
  pub kept_words : (g i : ℕ) → is_start m g ≡ true → Kept m g → i < 4 * size m g → word f.image g i ≡ word m g i
  -- "Value: granules freed": the runs grow by it
  pub value_is : f.value + free_granules m ≡ free_granules f.image
  -- "All others are freed": the granules of an object that is not kept are in no object, and so is what was in none
  pub freed_unused : (g y : ℕ) → is_start m g ≡ true → (Kept m g → ⊥) → g ≤ y → y < g + size m g → Unused f.image y
  pub unused_stays : (y : ℕ) → Unused m y → Unused f.image y
  -- "neighbouring runs joined, and freed granules are zeroed but for a run's two words"
  pub in_run : (y : ℕ) → Unused f.image y → InRun f.image y
  pub zeroed : (y i : ℕ) (u : Unused f.image y) → i < 4 → ((y ≡ (in_run y u).run) × (i < 2)) ⊎ (word f.image y i ≡ 0)

-- What it does besides on an undamaged image, from m to n.
pub record FinishSafe (m n : Image) : Type 0 where
  -- every link and register that is left is nil or a start
  pub nothing_dangles : Proper n
  -- "finish frees nothing that a chain of links from a register reaches"
  pub reached_stay : (g : ℕ) → Chain m g → Same m n g
