-- Where the words of a new object lie: in the run that it takes, and in the heap.
use Rattle.std.specs.Prelude.{ℕ, ◌+◌, ◌*◌, ◌-◌, ◌≤◌, ◌<◌}
use Rattle.model.specs.Image.{Image, word}

-- run g of the heap of k cards has at least b granules, and the run before it lies below it
pub record RunFor (k : ℕ) (m : Image) (b g before : ℕ) : Type 0 where
  pub some_granules : 1 ≤ b
  pub suffices : b ≤ word m g 0
  pub ends : g + word m g 0 ≤ 64 * k
  pub below : before < g

-- an object of b granules and c links at g lies in the heap of k cards
pub record ObjectFits (k b c g : ℕ) : Type 0 where
  pub some_granules : 1 ≤ b
  pub few_granules : b ≤ 1024
  pub links_fit : c ≤ 4 * b - 2
  pub inside : g + b ≤ 64 * k
