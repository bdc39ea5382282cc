-- The leading zeros of a word end at its highest set bit.
use mathlib.Core.Path.{◌≡◌, ◌∙◌}
use mathlib.Core.Bool.{true, false}
use Prim.Native.Nat.{ℕ, zero, suc, ◌-◌, ◌/◌, ◌^◌, ◌≤◌, ◌<◌}
use native.Mathlib.Nat.{pow-suc}
use native.Mathlib.Decide.{dec_lt}
use native.Mathlib.Omega.{arith}
use mathlib.Core.Logic.{inl, inr}
use Rattle.model.proofs.Laws.{bool_cases}
use lib.Count.{count_leading_zeros, leading_top}
use lib.Pow.{pow_mono}
use Rattle.model.specs.Base.{test_bit}
use Rattle.image_laws.specs.Digits.{bit_of}
use Rattle.image_laws.proofs.Digits.{on_digit, bit_half, bit_zero}
use Rattle.image_laws.proofs.Masks.{set_within}

-- j is the highest set bit of x, a word of w bits
pub record Highest (w x j : ℕ) : Type 0 where
  pub within : j < w
  pub is_set : test_bit x j ≡ true
  pub clear_above : (i : ℕ) → j < i → test_bit x i ≡ false

-- a number has no bit above its length
pub test_past : (x i : ℕ) → x < 2 ^ i → test_bit x i ≡ false
test_past x i h = elim (bool_cases (test_bit x i)) [ inl e ↦ absurd (omega (arith, set_within x i e)) | inr e ↦ e ]

bit_top : (j x : ℕ) → 2 ^ j ≤ x → x < 2 ^ suc j → bit_of x j ≡ 1
bit_top zero x l h = bit_zero x ∙ omega arith
bit_top (suc j) x l h = bit_half x j ∙ bit_top j (x / 2) (omega (arith, pow-suc 2 j)) (omega (arith, pow-suc 2 (suc j)))

below_pow : {x i j : ℕ} → i ≤ j → x < 2 ^ i → x < 2 ^ j
below_pow {x} {i} {j} l h = omega (arith, pow_mono {i = i} {j = j} l)

-- the highest bit, and so many zeros above it among 64
pub record Leading (w x : ℕ) : Type 0 where
  pub top : Highest w x (63 - count_leading_zeros 64 x)
  pub few : count_leading_zeros 64 x ≤ 63

pub word_leading : (w x : ℕ) → w ≤ 64 → x < 2 ^ w → (x ≡ 0 → ⊥) → Leading w x
word_leading w x l h n =
    let (j, e, a, b) = leading_top 64 x (omega arith) (below_pow l h) in
    let q : 63 - count_leading_zeros 64 x ≡ j = omega (arith, e) in
    let i : j < w = elim (dec_lt j w) [ yes p ↦ p | no p ↦ absurd (omega (arith, a, below_pow {i = w} {j = j} (omega arith) h)) ] in
    let top : Highest w x j = record { within = i; is_set = on_digit _ (bit_top j x a b); clear_above = λ i p. test_past x i (below_pow {i = suc j} p b) } in
    record { top = rw q top; few = omega (arith, e) }
