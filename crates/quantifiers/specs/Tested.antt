-- A test that is lent, by what its calls may answer.
use Rattle.std.specs.Prelude.{◌≡◌, ℕ, Bool, ◌<◌}

-- below n it answers what p says
abbrev pub Tests : (ℕ → Bool → Type 0) → ℕ → (ℕ → Bool) → Type 0
Tests post n p = (i : ℕ) (b : Bool) → i < n → post i b → b ≡ p i
