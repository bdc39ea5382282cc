-- Width, cards and sections of the image that a slice holds, and the lengths of sections.
use mathlib.Core.Path.{◌≡◌, refl, ap, ◌∙◌}
use mathlib.Core.Logic.{◌⊎◌}
use mathlib.Core.List.{List, map}
use Prim.Native.Nat.{ℕ, ◌*◌, ◌/◌}
use lib.ListN.{length, get_or}
use Rattle.model.specs.Image.{image, image_of, sections, lengths, heap_at, starts_at, marks_at, cards_at, counts_at, packets_at, general_at}
use Rattle.model.proofs.Words.{width_cases}
use Rattle.image_laws.specs.Sized.{Sized}
use Rattle.image_laws.proofs.Sections.{image_fits}

pub width_image : (w k : ℕ) (ws : List ℕ) → (image_of w k ws).width ≡ w
unfolding image_of image
width_image w k ws = refl

pub cards_image : (w k : ℕ) (ws : List ℕ) → (image_of w k ws).k ≡ k
unfolding image_of image
cards_image w k ws = refl

module _ {w k : ℕ} {ws : List ℕ} (z : Sized w k ws) where
  pub sized_width : (w ≡ 16) ⊎ (w ≡ 32)
  sized_width = width_cases w k z.low z.high

  -- a slice of the same length
  pub sized_as : {vs : List ℕ} → length vs ≡ length ws → Sized w k vs
  sized_as e = record { low = z.low; high = z.high; long = e ∙ z.long }

  long_section : (i : ℕ) → get_or (map length (sections (image_of w k ws))) i 0 ≡ get_or (lengths w k) i 0
  unfolding image_of image
  long_section i = ap (λ (l : List ℕ). get_or l i 0) (image_fits z).section_lengths

  pub heap_words : length (image_of w k ws).heap ≡ 256 * k
  unfolding sections
  heap_words = long_section heap_at

  pub starts_words : length (image_of w k ws).starts ≡ 64 * k / w
  unfolding sections
  starts_words = long_section starts_at

  pub marks_words : length (image_of w k ws).marks ≡ 64 * k / w
  unfolding sections
  marks_words = long_section marks_at

  pub cards_words : length (image_of w k ws).cards ≡ k
  unfolding sections
  cards_words = long_section cards_at

  pub counts_words : length (image_of w k ws).counts ≡ k
  unfolding sections
  counts_words = long_section counts_at

  pub packets_words : length (image_of w k ws).packets ≡ 1024
  unfolding sections
  packets_words = long_section packets_at

  pub general_words : length (image_of w k ws).general ≡ 8
  unfolding sections
  general_words = long_section general_at
