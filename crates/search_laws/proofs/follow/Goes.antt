-- The search goes on: not at all, and one stretch of it behind another.
use mathlib.Core.Path.{◌≡◌}
use mathlib.Core.List.{List}
use Prim.Native.Nat.{ℕ, ◌+◌, ◌*◌, ◌≤◌, ◌<◌}
use native.Mathlib.Omega.{arith}
use Rattle.model.specs.Base.{bit}
use Rattle.model.specs.Image.{Image}
use Rattle.image_laws.proofs.Digits.{digit_le}
use Rattle.search_laws.specs.Search.{seen, Search, Goes}

pub goes_none : {w k : ℕ} {m : Image} {s : List ℕ} → Search w k m s → Goes w k m s s 0
goes_none t = record { search = t; grow = λ g h. omega arith; down = omega arith }

pub goes_on : {w k : ℕ} {m : Image} {s s1 s2 : List ℕ} {a b : ℕ} (c : ℕ) → c ≤ a + b → Goes w k m s s1 a → Goes w k m s1 s2 b → Goes w k m s s2 c
goes_on c l p q = record { search = q.search; grow = λ g h. omega (arith, p.grow g h, q.grow g h); down = omega (arith, p.down, q.down) }

pub stays_seen : {w k : ℕ} {m : Image} {s s' : List ℕ} {d : ℕ} → Goes w k m s s' d → (g : ℕ) → g < 64 * k → seen w s g ≡ 1 → seen w s' g ≡ 1
stays_seen {w} {k} {m} {s} {s'} p g h e = omega (arith, p.grow g h, digit_le (bit w s' g))
