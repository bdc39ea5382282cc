-- A loop over i below n that writes the image: what holds of it after i turns.
use mathlib.Core.Path.{◌≡◌, refl, ◌∙◌}
use mathlib.Core.List.{List}
use Prim.Native.Nat.{ℕ, ◌+◌, ◌<◌, ◌≤◌, zero-le}
use native.Mathlib.Omega.{arith}
use lib.ListN.{length}
use Rattle.model.specs.Image.{Image, image_of}
use Rattle.image_laws.specs.Sized.{Sized}
use Rattle.image_laws.proofs.Lengths.{sized_as}

-- R m i: what holds of image m after i turns
pub record Looped (w k n : ℕ) (R : Image → ℕ → Type 0) (im₀ im : List ℕ) (i : ℕ) : Type 0 where
  pub low : i ≤ n
  pub sized : Sized w k im
  pub same : length im ≡ length im₀
  pub state : R (image_of w k im) i

pub looped_none : {w k n : ℕ} {R : Image → ℕ → Type 0} {im : List ℕ} → Sized w k im → R (image_of w k im) 0 → Looped w k n R im im 0
looped_none z r = record { low = zero-le; sized = z; same = refl; state = r }

module _ {w k n : ℕ} {R : Image → ℕ → Type 0} {im₀ im : List ℕ} {i : ℕ} (t : Looped w k n R im₀ im i) where
  -- what holds may speak of other things that the loop changes
  pub looped_more : {R' : Image → ℕ → Type 0} {im' : List ℕ} → i < n → length im' ≡ length im → R' (image_of w k im') (i + 1) → Looped w k n R' im₀ im' (i + 1)
  looped_more h e r = record { low = omega arith; sized = sized_as t.sized e; same = e ∙ t.same; state = r }

  pub looped_end : n ≤ i → R (image_of w k im) n
  looped_end h = let e : i ≡ n = omega (arith, t.low) in rw e at t.state
