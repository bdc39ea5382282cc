-- Where a new is placed, said without the chain: a run is a maximal stretch of unused granules. What two rules may make of a step.
use Rattle.std.specs.Prelude.{◌≡◌, true, false, ℕ, ◌≤◌, ◌<◌}
use Rattle.model.specs.Image.{Image}
use Rattle.model.specs.Records.{Kind, new}
use Rattle.model.specs.Mutate.{Placing, better}
use Rattle.model.specs.Steps.{Done}
use Rattle.theory.specs.Pieces.{is_stretch}

-- a run of n granules, which suffice for b, starts at g
abbrev pub Suffices : Image → ℕ → ℕ → ℕ → Type 0
Suffices m b g n = (is_stretch m g n ≡ true) × (b ≤ n)

-- by the rule: the run at g suffices, none that suffices is better, and it is better than all lower ones
pub record PlacedBy (rule : Placing) (m : Image) (b g : ℕ) : Type 0 where
  pub long : ℕ
  pub suffices : Suffices m b g long
  pub none_better : (h n : ℕ) → Suffices m b h n → better rule n long ≡ false
  pub lower_worse : (h n : ℕ) → Suffices m b h n → h < g → better rule long n ≡ true

-- document 02, (v): "the start of the shortest run that suffices, the lowest of equals"
pub record TightestRun (m : Image) (b g : ℕ) : Type 0 where
  pub long : ℕ
  pub suffices : Suffices m b g long
  pub shortest : (h n : ℕ) → Suffices m b h n → long ≤ n
  pub lowest_of_equals : (h : ℕ) → Suffices m b h long → g ≤ h

-- document 01: "the start of the lowest run that suffices"
pub record LowestRun (m : Image) (b g : ℕ) : Type 0 where
  pub long : ℕ
  pub suffices : Suffices m b g long
  pub none_lower : (h n : ℕ) → Suffices m b h n → g ≤ h

-- what two rules may make of a step: the same number, and but for a new the same image and value
pub record SameButNew (n : Kind) (d e : Done) : Type 0 where
  pub same_number : d.number ≡ e.number
  pub same_else : (n ≡ new → ⊥) → d ≡ e
