-- What becoming pending and settling do to an image: its bits.
use mathlib.Core.Path.{◌≡◌, refl, ap}
use Prim.Native.Nat.{ℕ, ◌*◌, ◌<◌}
use Rattle.model.specs.Image.{Image, is_start, marked, with_starts, with_marks, set_start, set_mark, image_of}
use Rattle.model.proofs.Bits.{set_bit_same, set_bit_other}
use Rattle.finish_marking_laws.specs.Follow.{pend}
use Rattle.finish_marking_laws.specs.Marking.{Shape}
use Rattle.image_laws.specs.Bits.{clear_start}
use Rattle.image_laws.specs.Digits.{digit, mark_bit, start_bit}
use Rattle.image_laws.specs.Sized.{Sized}
use Rattle.image_laws.proofs.Digits.{digit_on, digit_off}
use Rattle.image_laws.proofs.Lengths.{width_image, sized_width, starts_words, marks_words, cards_words}
use Rattle.image_laws.proofs.Masks.{clear_same, clear_other}
use Rattle.image_laws.proofs.Places.{word_in}
use mathlib.Core.List.{List}

pub image_shape : {w k : ℕ} {ws : List ℕ} → Sized w k ws → Shape k (image_of w k ws)
image_shape {w} {k} {ws} z = record {
  starts = λ g h. rw (width_image w k ws, starts_words z) (word_in w k (sized_width z) g h);
  marks = λ g h. rw (width_image w k ws, marks_words z) (word_in w k (sized_width z) g h);
  cards = cards_words z;
}

-- ---- an object becomes pending

-- the bits of m' are those of m but that a is pending
pub record Pended (m m' : Image) (a : ℕ) : Type 0 where
  pub mark : mark_bit m' a ≡ 1
  pub start : start_bit m' a ≡ 0
  pub marks : (g : ℕ) → (g ≡ a → ⊥) → mark_bit m' g ≡ mark_bit m g
  pub starts : (g : ℕ) → (g ≡ a → ⊥) → start_bit m' g ≡ start_bit m g

pub pended : (k : ℕ) (m : Image) (a : ℕ) → Shape k m → a < 64 * k → Pended m (pend m a) a
unfolding pend clear_start set_mark with_starts with_marks marked is_start
pended k m a s h =
    record {
      mark = digit_on (set_bit_same m.width m.marks a (s.marks a h));
      start = digit_off (clear_same m.width m.starts a (s.starts a h));
      marks = λ g n. ap digit (set_bit_other m.width m.marks a g n);
      starts = λ g n. ap digit (clear_other m.width m.starts a g n);
    }

-- ---- a pending object is settled

pub record Settled (m m' : Image) (a : ℕ) : Type 0 where
  pub start : start_bit m' a ≡ 1
  pub marks : (g : ℕ) → mark_bit m' g ≡ mark_bit m g
  pub starts : (g : ℕ) → (g ≡ a → ⊥) → start_bit m' g ≡ start_bit m g

pub settled_bits : (k : ℕ) (m : Image) (a : ℕ) → Shape k m → a < 64 * k → Settled m (set_start m a) a
unfolding set_start with_starts is_start marked
settled_bits k m a s h =
    record {
      start = digit_on (set_bit_same m.width m.starts a (s.starts a h));
      marks = λ g. refl;
      starts = λ g n. ap digit (set_bit_other m.width m.starts a g n);
    }
