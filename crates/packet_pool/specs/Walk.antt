-- The choice of a packet of the pool by a test that the caller gives.
use Rattle.std.specs.Prelude.{◌≡◌, Bool, not, ℕ, ◌<◌, ◌^◌}
use Rattle.model.specs.Image.{Image, count}
use Rattle.model.specs.Collect.{held}
use Rattle.collector_laws.specs.Pool.{Choice, choice}

-- the test answers whether n is `less` than e
abbrev pub Decides : (ℕ → ℕ → Bool → Type 0) → (ℕ → ℕ → Bool) → Type 0
Decides post less = (n e : ℕ) (r : Bool) → n < 2 ^ 64 → e < 2 ^ 64 → post n e r → r ≡ less n e

-- the choice among the first p packets, of those that no tracer holds
abbrev pub walk_to : (ℕ → ℕ → Bool) → ℕ → Image → ℕ → Choice
walk_to less bound m p = choice less (count m) (λ q. not (held m q)) bound p
