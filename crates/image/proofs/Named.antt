-- The words of a section by name.
use Rattle.std.proofs.Common.{◌≡◌, refl, List, [], ℕ, set, get_or}
use Rattle.model.specs.Image.{lengths, split, image, image_of, with_heap, with_starts, with_marks, with_cards, with_counts, with_regs, with_packets, with_tracers, with_players, with_general}
use Rattle.image.specs.declared.section.Section.{Section}
use Rattle.image.specs.declared.section.Section.TheVariants.{Heap, Starts, Marks, Cards, Counts, Regs, Packets, Tracers, Players, General}
use Rattle.image.specs.Section.{number_of, part, with_part}

module _ (w k : ℕ) (ws : List ℕ) where
  pub part_is : (s : Section) → get_or (split (lengths w k) ws) (number_of s) [] ≡ part s (image_of w k ws)
  unfolding image_of image split
  part_is Heap = refl
  part_is Starts = refl
  part_is Marks = refl
  part_is Cards = refl
  part_is Counts = refl
  part_is Regs = refl
  part_is Packets = refl
  part_is Tracers = refl
  part_is Players = refl
  part_is General = refl

  pub with_part_is : (s : Section) (l : List ℕ) → image w k (set (split (lengths w k) ws) (number_of s) l) ≡ with_part s (image_of w k ws) l
  unfolding image_of image split with_heap with_starts with_marks with_cards with_counts with_regs with_packets with_tracers with_players with_general
  with_part_is Heap l = refl
  with_part_is Starts l = refl
  with_part_is Marks l = refl
  with_part_is Cards l = refl
  with_part_is Counts l = refl
  with_part_is Regs l = refl
  with_part_is Packets l = refl
  with_part_is Tracers l = refl
  with_part_is Players l = refl
  with_part_is General l = refl
