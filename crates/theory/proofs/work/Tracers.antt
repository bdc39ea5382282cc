-- Tracers of which two words of one are written: the packets held, the object in hand, or the card in hand.
use mathlib.Core.Path.{◌≡◌, ◌∙◌}
use mathlib.Core.List.{List}
use Prim.Native.Nat.{ℕ, ◌+◌, ◌*◌, ◌<◌}
use native.Mathlib.Omega.{arith}
use lib.ListN.{length}
use Rattle.model.specs.Base.{nth, put}
use Rattle.model.proofs.Laws.{nth_put_same, nth_put_other, length_put}

-- word j of each tracer is as it was
abbrev pub SameAt : ℕ → List ℕ → List ℕ → Type 0
SameAt j ts us = (t : ℕ) → nth us (8 * t + j) ≡ nth ts (8 * t + j)

-- words a and b of tracer t are written
abbrev pub both : List ℕ → ℕ → ℕ → ℕ → ℕ → ℕ → List ℕ
both ts t a x b y = put (put ts (8 * t + a) x) (8 * t + b) y

module _ (ts : List ℕ) (t a x b y : ℕ) where
  -- the other words
  pub both_off : (j : ℕ) → (j < 8) × (a < 8) × (b < 8) × (j ≡ a → ⊥) × (j ≡ b → ⊥) → SameAt j ts (both ts t a x b y)
  both_off j h u = nth_put_other _ _ _ _ (omega (arith, h)) ∙ nth_put_other _ _ _ _ (omega (arith, h))

  -- the other tracers
  pub both_other : (u j : ℕ) → (u ≡ t → ⊥) → (j < 8) × (a < 8) × (b < 8) → nth (both ts t a x b y) (8 * u + j) ≡ nth ts (8 * u + j)
  both_other u j ne h = nth_put_other _ _ _ _ (omega (arith, h)) ∙ nth_put_other _ _ _ _ (omega (arith, h))

  module _ (sized : length ts ≡ 64) (ht : t < 8) where
    pub both_first : (a < 8) × (b < 8) × (a ≡ b → ⊥) → nth (both ts t a x b y) (8 * t + a) ≡ x
    both_first h = nth_put_other _ _ _ _ (omega (arith, h)) ∙ nth_put_same ts (8 * t + a) x (omega (arith, h))

    pub both_second : b < 8 → nth (both ts t a x b y) (8 * t + b) ≡ y
    both_second h = nth_put_same _ (8 * t + b) y (simp length_put (omega arith))
