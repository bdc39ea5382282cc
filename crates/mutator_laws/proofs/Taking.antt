-- A run gives its first granules to an object: the words that are written, and what is left of the free granules.
use mathlib.Core.Path.{◌≡◌, refl, ◌∙◌}
use Prim.Native.Nat.{ℕ, zero, suc, ◌+◌, ◌-◌, ◌≤◌}
use native.Mathlib.Nat.{add-zero}
use native.Mathlib.Omega.{arith}
use Rattle.model.specs.Image.{Image, word, set_word, set_start, set_reg, set_first_run}
use Rattle.model.specs.Mutate.{set_next, take_run, if_long, usable_run}
use Rattle.theory.proofs.heap.Sums.{long_zero, long_more}
use Rattle.runs_laws.specs.declared.Free.{Free}
use Rattle.runs_laws.specs.Granules.{shrunk}

-- ---- the run taken from the chain

pub set_next_first : (m i : Image) (before g : ℕ) → before ≡ 0 → i ≡ set_first_run m g → i ≡ set_next m before g
unfolding set_next
set_next_first m i before g z e = rw z e

pub set_next_after : (m i : Image) (before g : ℕ) → (before ≡ 0 → ⊥) → i ≡ set_word m before 1 g → i ≡ set_next m before g
unfolding set_next
set_next_after m i zero g nz e = absurd (nz refl)
set_next_after m i (suc before) g nz e = e

module _ (m : Image) (g before b n next : ℕ) (en : n ≡ word m g 0) (ex : next ≡ word m g 1) where
  pub take_whole : n ≡ b → (i : Image) → i ≡ set_next m before next → i ≡ take_run m g before b (word m g 0 - b)
  unfolding take_run
  take_whole h i ei = let z : word m g 0 - b ≡ 0 = omega arith in rw z (rw (← ex) ei)

  pub take_part : (n ≡ b → ⊥) → b ≤ word m g 0 → (i j l : Image) → i ≡ set_word m (g + b) 0 (n - b) → j ≡ set_word i (g + b) 1 next → l ≡ set_next j before (g + b)
      → l ≡ take_run m g before b (word m g 0 - b)
  unfolding take_run
  take_part h q i j l ei ej el =
      let x : word m g 0 - b ≡ suc (n - b - 1) = omega arith in
      let d : suc (n - b - 1) ≡ n - b = omega arith in
      rw (x, d) (el ∙ rw (ej, ei, ex))

-- ---- what is left of the free granules, where u of the run's n are usable

module _ (m : Image) (g b n u : ℕ) (f : Free) (en : n ≡ word m g 0) (eu : u ≡ if_long usable_run n) where
  pub counted_first : if_long usable_run (word m g 0) ≤ f.usable → u ≤ f.usable
  counted_first l = rw (eu, en) l

  pub left_whole : n ≡ b → ◌≡◌ {A = Free} (record { granules = f.granules - b; usable = f.usable - u }) (shrunk f (word m g 0) b)
  unfolding shrunk
  left_whole h = let z : word m g 0 - b ≡ 0 = omega arith in rw (z, long_zero usable_run, add-zero, eu, en)

  pub left_part : (x : ℕ) → x ≡ if_long usable_run (n - b) → ◌≡◌ {A = Free} (record { granules = f.granules - b; usable = f.usable - u + x }) (shrunk f (word m g 0) b)
  unfolding shrunk
  left_part x ex = rw (ex, eu, en)

  pub left_few : if_long usable_run (word m g 0) ≤ f.usable → (x : ℕ) → x ≡ if_long usable_run (n - b) → f.usable - u + x ≤ f.usable
  left_few l x ex = omega (arith, counted_first l, long_more usable_run (n - b) n (omega arith))

-- ---- the object made

pub object_made : (m : Image) (p a b c g : ℕ) (i j l n : Image) → i ≡ set_word m g 0 b → j ≡ set_word i g 1 c → l ≡ set_start j g → n ≡ set_reg l p a g → n ≡ set_reg (set_start (set_word (set_word m g 0 b) g 1 c) g) p a g
object_made m p a b c g i j l n ei ej el en = rw (en, el, ej, ei)
