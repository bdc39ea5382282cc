-- Kinds 1 to 8 with fields within their limits, for players who owe nothing: numbers 3 to 5 let them pass.
use mathlib.Core.Path.{◌≡◌, refl}
use Prim.Native.Nat.{ℕ, ◌<◌}
use borrow.Author.Tests.{lt-leb, eq-eqb}
use Rattle.model.specs.Image.{Image, owed}
use Rattle.model.specs.Records.{new, load, store, barrier, hand_over, drop_reg, read, write, kind_of}
use Rattle.model.specs.Steps.{numbers_open}
use Rattle.request_laws.specs.Answer.{asked}
use Rattle.request_laws.specs.Passed.{Passed}

pub barrier_passed : (m : Image) (p : ℕ) → p < 16 → Passed m (asked 4 p 0 0 0) barrier
unfolding asked kind_of numbers_open
barrier_passed m p h = record { is_kind = refl; named = refl; on_desk = rw (lt-leb 16 p h); none_owed = refl }

pub hand_passed : (m : Image) (p a q b : ℕ) → (p < 16) × (a < 16) × (q < 16) × (b < 16) → (owed m p ≡ 0) × (owed m q ≡ 0) → Passed m (asked 5 p a q b) hand_over
unfolding asked kind_of numbers_open
hand_passed m p a q b h z = record {
  is_kind = refl;
  named = refl;
  on_desk = rw (lt-leb 16 p h.0, lt-leb 16 a h.1, lt-leb 16 q h.2, lt-leb 16 b h.3);
  none_owed = rw (eq-eqb (owed m p) 0 z.0, eq-eqb (owed m q) 0 z.1);
}

module _ (m : Image) (p a : ℕ) (z : owed m p ≡ 0) where
  pub load_passed : (b c : ℕ) → (p < 16) × (a < 16) × (b < 16) → Passed m (asked 2 p a b c) load
  unfolding asked kind_of numbers_open
  load_passed b c h = record { is_kind = refl; named = refl; on_desk = rw (lt-leb 16 p h.0, lt-leb 16 a h.1, lt-leb 16 b h.2); none_owed = rw (eq-eqb (owed m p) 0 z) }

  pub store_passed : (b c : ℕ) → (p < 16) × (a < 16) × (c < 16) → Passed m (asked 3 p a b c) store
  unfolding asked kind_of numbers_open
  store_passed b c h = record { is_kind = refl; named = refl; on_desk = rw (lt-leb 16 p h.0, lt-leb 16 a h.1, lt-leb 16 c h.2); none_owed = rw (eq-eqb (owed m p) 0 z) }

  module _ (h : (p < 16) × (a < 16)) where
    pub new_passed : (b c : ℕ) → Passed m (asked 1 p a b c) new
    unfolding asked kind_of numbers_open
    new_passed b c = record { is_kind = refl; named = refl; on_desk = rw (lt-leb 16 p h.0, lt-leb 16 a h.1); none_owed = rw (eq-eqb (owed m p) 0 z) }

    pub drop_passed : Passed m (asked 6 p a 0 0) drop_reg
    unfolding asked kind_of numbers_open
    drop_passed = record { is_kind = refl; named = refl; on_desk = rw (lt-leb 16 p h.0, lt-leb 16 a h.1); none_owed = rw (eq-eqb (owed m p) 0 z) }

    pub read_passed : (b : ℕ) → Passed m (asked 7 p a b 0) read
    unfolding asked kind_of numbers_open
    read_passed b = record { is_kind = refl; named = refl; on_desk = rw (lt-leb 16 p h.0, lt-leb 16 a h.1); none_owed = rw (eq-eqb (owed m p) 0 z) }

    pub write_passed : (b c : ℕ) → Passed m (asked 8 p a b c) write
    unfolding asked kind_of numbers_open
    write_passed b c = record { is_kind = refl; named = refl; on_desk = rw (lt-leb 16 p h.0, lt-leb 16 a h.1); none_owed = rw (eq-eqb (owed m p) 0 z) }
