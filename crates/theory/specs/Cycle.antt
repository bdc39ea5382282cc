-- From a begin to the next finish: where what a step puts into registers, links and marks comes from, and what stays true of it.
use Rattle.std.specs.Prelude.{◌≡◌, ◌⊎◌, true, false, ℕ, ◌<◌, length}
use Rattle.model.specs.Image.{Image, word, is_start, marked, links, link, reg, owed, hand, next_link, running}
use Rattle.model.specs.Records.{Step, finish, kind_of}
use Rattle.model.specs.Mutate.{Placing}
use Rattle.model.specs.Steps.{step}
use Rattle.model.specs.Claim.{Chain}
use Rattle.theory.specs.Heap.{Proper, Laid}
use Rattle.theory.specs.Cover.{Counted}

-- what an undamaged image has, as far as the claim over lists of steps needs it
pub record Facts (m : Image) : Type 0 where
  pub proper : Proper m
  pub laid : Laid m
  pub counted : Counted m
  pub regs_length : length m.regs ≡ 256
  pub players_length : length m.players ≡ 32
  pub hand-ok : (t : ℕ) → t < 8 → (hand m t ≡ 0 → ⊥) → (marked m (hand m t) ≡ true) × (next_link m t < links m (hand m t))
  pub idle : (running m ≡ 1 → ⊥) → (g : ℕ) → marked m g ≡ false

-- ---- what a step carries

-- a is in a register, linked from a source, marked, or no object yet
pub data Source (m : Image) : ℕ → Type 0 where
  in_reg : {a : ℕ} (p r : ℕ) → p < 16 → r < 16 → reg m p r ≡ a → (a ≡ 0 → ⊥) → Source m a
  in_link : {a : ℕ} (g i : ℕ) → Source m g → is_start m g ≡ true → i < links m g → link m g i ≡ a → (a ≡ 0 → ⊥) → Source m a
  is_marked : {a : ℕ} → marked m a ≡ true → Source m a
  no_start : {a : ℕ} → is_start m a ≡ false → Source m a

-- a link of g to a: one that g had, or one to a source
pub data LinkFrom (m : Image) (g a : ℕ) : Type 0 where
  had_link : (i : ℕ) → is_start m g ≡ true → i < links m g → link m g i ≡ a → LinkFrom m g a
  to_source : Source m a → LinkFrom m g a

-- start bits stay; what n has in registers, links and marks comes from m
pub record Carries (m n : Image) : Type 0 where
  pub starts_stay : (g : ℕ) → is_start m g ≡ true → is_start n g ≡ true
  pub regs_from : (p r : ℕ) → p < 16 → r < 16 → (reg n p r ≡ 0 → ⊥) → Source m (reg n p r)
  pub links_from : (g i : ℕ) → is_start n g ≡ true → i < links n g → (link n g i ≡ 0 → ⊥) → LinkFrom m g (link n g i)
  pub marks-from : (g : ℕ) → marked n g ≡ true → Source m g

-- heap, start bits, registers and owed cards are as they were; what is newly marked passes
pub record Quiet (P : ℕ → Type 0) (m n : Image) : Type 0 where
  pub same_word : (g i : ℕ) → word n g i ≡ word m g i
  pub same_start : (g : ℕ) → is_start n g ≡ is_start m g
  pub same_reg : (p r : ℕ) → reg n p r ≡ reg m p r
  pub same_owed : (p : ℕ) → owed n p ≡ owed m p
  pub new_marks : (g : ℕ) → marked n g ≡ true → (marked m g ≡ true) ⊎ P g

-- the record is no finish that is accepted
abbrev pub NoFinish : Placing → Image → Step → Type 0
NoFinish rule m s = kind_of s.kind ≡ finish → (step rule m s).number ≡ 0 → ⊥

-- ---- what stays true from a begin on

-- registers, marks, what is no object, and the links of objects that pass pass
pub record Live (S : ℕ → Type 0) (m : Image) : Type 0 where
  pub live_regs : (p r : ℕ) → p < 16 → r < 16 → (reg m p r ≡ 0 → ⊥) → S (reg m p r)
  pub live_links : (g i : ℕ) → is_start m g ≡ true → S g → i < links m g → (link m g i ≡ 0 → ⊥) → S (link m g i)
  pub live_marks : (g : ℕ) → marked m g ≡ true → S g
  pub live_free : (g : ℕ) → is_start m g ≡ false → S g

-- at a begin: an object of that image passes if a chain reaches it there
unfoldable pub Since : Image → ℕ → Type 0
Since m₀ g = is_start m₀ g ≡ true → Chain m₀ g
