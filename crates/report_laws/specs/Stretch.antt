-- Where the stretches of a report lie.
use Rattle.std.specs.Prelude.{ℕ, ◌*◌, ◌≤◌, ◌<◌, ◌≡◌, List, length}
use Rattle.model.specs.Report.{stretch_count, stretch_start, stretch_end}

-- the first c stretches end at granule e or before it
pub record Within (bs : List ℕ) (c e : ℕ) : Type 0 where
  pub bytes : 4 * c ≤ length bs
  pub ends : (i : ℕ) → i < c → stretch_end bs i ≤ e

-- the c stretches of a report lie in a store of k cards, behind granule 0
pub record Lying (bs : List ℕ) (c k : ℕ) : Type 0 where
  pub number : c ≡ stretch_count bs
  pub within : Within bs c (64 * k)
  pub above : (i : ℕ) → i < c → 1 ≤ stretch_start bs i
