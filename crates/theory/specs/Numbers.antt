-- The conditions of numbers 9 and 11, written out as propositions: where a step with good fields is refused.
use Rattle.std.specs.Prelude.{◌≡◌, ◌⊎◌, true, false, ℕ, suc, ◌+◌, ◌*◌, ◌-◌, ◌/◌, ◌≤◌, ◌<◌}
use Rattle.model.specs.Image.{Image, marked, dirty, state, count, input, output, hand, hand_card, owed, running}
use Rattle.model.specs.Records.{Step}
use Rattle.model.specs.Mutate.{Placing}
use Rattle.model.specs.Steps.{step}

-- the step is refused with number n exactly where P holds, and else accepted
pub record RefusedWhere (rule : Placing) (m : Image) (s : Step) (n : ℕ) (P : Type 0) : Type 0 where
  pub refused_if : P → (step rule m s).number ≡ n
  pub only_if : (step rule m s).number ≡ n → P
  pub else_accepted : (P → ⊥) → (step rule m s).number ≡ 0

-- ---- fields for which no lower number applies

-- new: player and register on the desk, no barrier owed, "b = 0, b over 1,024, or c over 4 × b − 2" not so
pub record GoodNew (m : Image) (s : Step) : Type 0 where
  pub zero_bytes : s.zeros ≡ 0
  pub player : s.who < 16
  pub register : s.a < 16
  pub owes_none : owed m s.who ≡ 0
  pub some_granules : 1 ≤ s.b
  pub few_granules : s.b ≤ 1024
  pub few_links : s.c + 2 ≤ 4 * s.b

-- barrier
pub record GoodBarrier (s : Step) : Type 0 where
  pub zero_bytes : s.zeros ≡ 0
  pub player : s.who < 16
  pub no_fields : (s.a ≡ 0) × (s.b ≡ 0) × (s.c ≡ 0)

-- scan, in a cycle
pub record GoodScan (m : Image) (s : Step) : Type 0 where
  pub zero_bytes : s.zeros ≡ 0
  pub tracer : s.who < 8
  pub player : s.a < 16
  pub no_fields : (s.b ≡ 0) × (s.c ≡ 0)
  pub in_cycle : running m ≡ 1

-- trace and clean, in a cycle
pub record GoodTracer (m : Image) (s : Step) : Type 0 where
  pub zero_bytes : s.zeros ≡ 0
  pub tracer : s.who < 8
  pub no_fields : (s.a ≡ 0) × (s.b ≡ 0) × (s.c ≡ 0)
  pub in_cycle : running m ≡ 1

-- undirty of a card that exists, in a cycle
pub record GoodUndirty (m : Image) (s : Step) : Type 0 where
  pub zero_bytes : s.zeros ≡ 0
  pub card : s.a < m.k
  pub no_fields : (s.who ≡ 0) × (s.b ≡ 0) × (s.c ≡ 0)
  pub in_cycle : running m ≡ 1

-- ---- "trace or clean where no line applies"

-- the packet + 1 that is held as x is absent or has no entries
abbrev pub NoEntries : Image → ℕ → Type 0
NoEntries m x = (x ≡ 0) ⊎ (count m (x - 1) ≡ 0)

-- packet p is held by no tracer
abbrev pub InPool : Image → ℕ → Type 0
InPool m p = (t : ℕ) → t < 8 → (input m t ≡ suc p → ⊥) × (output m t ≡ suc p → ⊥)

-- no line of trace applies to tracer t
pub record NoTraceLine (m : Image) (t : ℕ) : Type 0 where
  pub hand-empty : hand m t ≡ 0
  pub no_input : NoEntries m (input m t)
  pub no_pool : (p : ℕ) → p < 32 → InPool m p → count m p ≡ 0
  pub no_output : NoEntries m (output m t)

-- no line of clean applies to tracer t
pub record NoCleanLine (m : Image) (t : ℕ) : Type 0 where
  pub hand-empty : hand m t ≡ 0
  pub no-card : hand_card m t ≡ 0
  pub none_dirty : (c : ℕ) → c < m.k → state m c ≡ 1 → ⊥

-- ---- document 02, (ii): "11 if the card isn't dirty or its count isn't 0"

-- card c is not dirty, or a marked object lies on it
abbrev pub NothingToWipe : Image → ℕ → Type 0
NothingToWipe m c = (dirty m c ≡ false) ⊎ ((g : ℕ) × (g / 64 ≡ c) × (marked m g ≡ true))
