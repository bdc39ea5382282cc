-- Start and mark bits of an image.
use mathlib.Core.Path.{◌≡◌, ap, ◌∙◌}
use mathlib.Core.Bool.{Bool, false}
use mathlib.Core.List.{List}
use Prim.Native.Nat.{ℕ, ◌/◌, ◌%◌, ◌+◌, ◌*◌, ◌^◌, ◌≤◌, ◌<◌}
use Rattle.model.specs.Base.{nth, test_bit, bit, put, with_bit, set_bit}
use Rattle.model.specs.Image.{image_of, image, is_start, marked, Image, with_starts, with_marks, set_start, set_mark}
use Rattle.image_laws.specs.Bits.{without_bit, clear_bit, clear_start}
use Rattle.image_laws.specs.Sized.{Sized}
use Rattle.image_laws.proofs.Places.{place_word, place_bit}
use Rattle.model.proofs.Bits.{bit_past}
use native.Mathlib.Nat.{zero-div}
use Rattle.image_laws.proofs.Lengths.{starts_words, marks_words}

module _ (w k : ℕ) (ws : List ℕ) (g x : ℕ) (b : Bool) where
  pub start_read : x ≡ nth (image_of w k ws).starts (g / w) → b ≡ test_bit x (g % w) → b ≡ is_start (image_of w k ws) g
  unfolding is_start bit image_of image
  start_read e h = h ∙ ap (λ y. test_bit y (g % w)) e

  pub mark_read : x ≡ nth (image_of w k ws).marks (g / w) → b ≡ test_bit x (g % w) → b ≡ marked (image_of w k ws) g
  unfolding marked bit image_of image
  mark_read e h = h ∙ ap (λ y. test_bit y (g % w)) e

module _ (w k : ℕ) (ws : List ℕ) (g x v : ℕ) (m : Image) where
  pub start_set : x ≡ nth (image_of w k ws).starts (g / w) → v ≡ with_bit x (g % w) → m ≡ with_starts (image_of w k ws) (put (image_of w k ws).starts (g / w) v) → m ≡ set_start (image_of w k ws) g
  unfolding set_start set_bit image_of image
  start_set e f h = h ∙ rw (f, e)

  pub start_cleared : x ≡ nth (image_of w k ws).starts (g / w) → v ≡ without_bit x (g % w) → m ≡ with_starts (image_of w k ws) (put (image_of w k ws).starts (g / w) v) → m ≡ clear_start (image_of w k ws) g
  unfolding clear_start clear_bit image_of image
  start_cleared e f h = h ∙ rw (f, e)

  pub mark_set : x ≡ nth (image_of w k ws).marks (g / w) → v ≡ with_bit x (g % w) → m ≡ with_marks (image_of w k ws) (put (image_of w k ws).marks (g / w) v) → m ≡ set_mark (image_of w k ws) g
  unfolding set_mark set_bit image_of image
  mark_set e f h = h ∙ rw (f, e)

-- ---- bits by the word that they stand in

pub bit_at : (w : ℕ) (ws : List ℕ) (i j : ℕ) → j < w → bit w ws (w * i + j) ≡ test_bit (nth ws i) j
unfolding bit
bit_at w ws i j h = rw (place_word w i j h, place_bit w i j h)

pub zero_bit : (x j : ℕ) → x ≡ 0 → test_bit x j ≡ false
unfolding test_bit
zero_bit x j e = rw (e, zero-div (2 ^ j))

-- past the end of a store none is set
module _ (w k : ℕ) (ws : List ℕ) (z : Sized w k ws) (g : ℕ) (h : 64 * k ≤ g) where
  pub start_past : is_start (image_of w k ws) g ≡ false
  unfolding is_start image_of image
  start_past = bit_past w (64 * k) (image_of w k ws).starts g (starts_words z) h

  pub mark_past : marked (image_of w k ws) g ≡ false
  unfolding marked image_of image
  mark_past = bit_past w (64 * k) (image_of w k ws).marks g (marks_words z) h
