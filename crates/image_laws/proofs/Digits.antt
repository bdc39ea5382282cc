-- Bits as digits: of a word by halves, of a conjunction and a complement, and the digits of an image's bit words.
use mathlib.Core.Path.{◌≡◌, refl, sym, ap, ◌∙◌}
use mathlib.Core.Logic.{◌⊎◌, inl, inr, ⊎_elim}
use mathlib.Core.Bool.{Bool, true, false}
use Prim.Native.Nat.{ℕ, zero, suc, ◌+◌, ◌/◌, ◌%◌, ◌^◌, ◌≤◌, ◌<◌, min}
use native.Mathlib.Nat.{pow-suc, zero-div}
use native.Mathlib.Omega.{arith}
use Rattle.model.proofs.Laws.{bool_cases}
use lib.Bits.{bit_and, and_step}
use lib.Pow.{shr-shr}
use borrow.Author.Tests.{eqb-true, eqb-false}
use Rattle.model.specs.Base.{nth, test_bit, bit}
use Rattle.model.specs.Image.{Image, is_start, marked}
use Rattle.image_laws.specs.Digits.{digit, bit_of, mark_bit, start_bit}

pub digit_two : (b : Bool) → (digit b ≡ 0) ⊎ (digit b ≡ 1)
unfolding digit
digit_two true = inr refl
digit_two false = inl refl

pub digit_le : (b : Bool) → digit b ≤ 1
digit_le b = ⊎_elim (λ e. omega arith) (λ e. omega arith) (digit_two b)

pub digit_on : {b : Bool} → b ≡ true → digit b ≡ 1
unfolding digit
digit_on e = ap digit e

pub digit_off : {b : Bool} → b ≡ false → digit b ≡ 0
unfolding digit
digit_off e = ap digit e

pub same_digit : (a b : Bool) → digit a ≡ digit b → a ≡ b
unfolding digit
same_digit true true e = refl
same_digit false false e = refl
same_digit true false e = absurd (omega arith)
same_digit false true e = absurd (omega arith)

pub on_digit : (b : Bool) → digit b ≡ 1 → b ≡ true
unfolding digit
on_digit b e = same_digit b true e

pub off_digit : (b : Bool) → digit b ≡ 0 → b ≡ false
unfolding digit
off_digit b e = same_digit b false e

-- ---- a word by halves

pub test_half : (x j : ℕ) → test_bit x (suc j) ≡ test_bit (x / 2) j
unfolding test_bit
test_half x j =
    let e : 1 + j ≡ suc j = omega arith in
    rw (← e, ← (shr-shr x 1 j))

pub bit_half : (x j : ℕ) → bit_of x (suc j) ≡ bit_of (x / 2) j
bit_half x j = ap digit (test_half x j)

pub bit_digit : (x j : ℕ) → bit_of x j ≡ x / 2 ^ j % 2
unfolding test_bit
bit_digit x j =
    elim (bool_cases (test_bit x j)) [
      | inl e ↦ digit_on e ∙ sym (eqb-true _ _ e)
      | inr e ↦ let z = digit_off e in omega (arith, eqb-false (x / 2 ^ j % 2) 1 e)
    ]

pub bit_zero : (x : ℕ) → bit_of x 0 ≡ x % 2
bit_zero x = bit_digit x 0 ∙ omega arith

pub bit_none : (j : ℕ) → bit_of 0 j ≡ 0
bit_none j = bit_digit 0 j ∙ rw (zero-div (2 ^ j))

-- ---- masks

pub bit-and : (x y j : ℕ) → bit_of (bit_and x y) j ≡ min (bit_of x j) (bit_of y j)
bit-and x y zero = rw (bit_zero (bit_and x y), bit_zero x, bit_zero y, and_step x y) (omega arith)
bit-and x y (suc j) =
    let h : bit_and x y / 2 ≡ bit_and (x / 2) (y / 2) = rw (and_step x y) (omega arith) in
    rw (bit_half (bit_and x y) j, bit_half x j, bit_half y j, h) (bit-and (x / 2) (y / 2) j)

-- y is x's complement at n bits
pub bit_not : (n x y j : ℕ) → x + y + 1 ≡ 2 ^ n → j < n → bit_of y j + bit_of x j ≡ 1
bit_not zero x y j e l = absurd (omega arith)
bit_not (suc n) x y zero e l = rw (bit_zero y, bit_zero x) (omega (arith, pow-suc 2 n))
bit_not (suc n) x y (suc j) e l = rw (bit_half y j, bit_half x j) (bit_not n (x / 2) (y / 2) j (omega (arith, pow-suc 2 n)) (omega arith))

-- ---- granule g by its word, where words have w bits

module _ (w : ℕ) (m : Image) (e : m.width ≡ w) (g : ℕ) where
  pub mark_digit : mark_bit m g ≡ bit_of (nth m.marks (g / w)) (g % w)
  unfolding marked bit
  mark_digit = rw e

  pub start_digit : start_bit m g ≡ bit_of (nth m.starts (g / w)) (g % w)
  unfolding is_start bit
  start_digit = rw e
