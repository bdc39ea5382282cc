-- The chain of free runs, as a walk needs it, and the room that a walk finds.
use Rattle.std.specs.Prelude.{◌≡◌, ◌⊎◌, ℕ, ◌≤◌, ◌<◌}
use Rattle.model.specs.Image.{Image, granules, word}
use Rattle.model.specs.Mutate
use Rattle.runs_laws.specs.declared.Room.{Room}

-- "Runs are chained in ascending order": the runs from g on lie in the heap, each behind the one before it
pub data Linked (m : Image) : ℕ → Type 0 where
  linked_end : Linked m 0
  linked_run : {g : ℕ} → 1 ≤ g → g < granules m → (word m g 1 ≡ 0) ⊎ (g < word m g 1) → Linked m (word m g 1) → Linked m g

-- the model's record of a room
abbrev pub room_of : Room → Mutate.Room
room_of r = record { run = r.run; before = r.before }
