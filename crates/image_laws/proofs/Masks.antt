-- Bits set and cleared by shift and mask, and what clearing one bit does to each, for any width.
use mathlib.Core.Path.{◌≡◌, sym, ap, ◌∙◌}
use mathlib.Core.Logic.{inl, inr}
use mathlib.Core.Bool.{true, false}
use mathlib.Core.List.{List}
use Prim.Native.Nat.{ℕ, zero, suc, ◌+◌, ◌*◌, ◌-◌, ◌/◌, ◌%◌, ◌^◌, ◌≤◌, ◌<◌}
use native.Mathlib.Nat.{pow-suc, one-mul, div-eq_of_lt, div-eq-sub-div}
use native.Mathlib.Decide.{dec_lt}
use native.Mathlib.Omega.{arith}
use lib.Dec.{lit<}
use lib.Bits.{bit_and, bit_or, and_step, and_high, or_add_and}
use lib.Pow.{shl_exact, pow-add, pow-lt, pow_pos}
use lib.ListN.{length}
use borrow.Author.Tests.{eqb-true, ne_eqb}
use Rattle.model.specs.Base.{nth, test_bit, with_bit, bit}
use Rattle.model.proofs.Laws.{bool_cases, nth_put_same, length_put}
use Rattle.model.proofs.Bits.{with_bit_other, unset, bit_put_other}
use Rattle.image_laws.specs.Bits.{without_bit, clear_bit}

-- a bit that is set, and one that is not, as digits
set_digit : (x j : ℕ) → test_bit x j ≡ true → x / 2 ^ j % 2 ≡ 1
unfolding test_bit
set_digit x j e = eqb-true (x / 2 ^ j % 2) 1 e

-- ---- shift and mask

-- `1 << j` in a word of w bits
pub one_shl : (w j : ℕ) → j < w → 1 * 2 ^ j % 2 ^ w ≡ 2 ^ j
one_shl w j h = shl_exact {a = 1} 1 j w (lit< tt) (omega arith) ∙ one-mul (2 ^ j)

and_pow : (x j : ℕ) → bit_and x (2 ^ j) ≡ x / 2 ^ j % 2 * 2 ^ j
and_pow x j =
    let e : 2 ^ (1 + j) - 2 ^ j ≡ 2 ^ j = omega (arith, pow-add 2 1 j) in
    rw e at (and_high x 1 j)

-- y is m's complement at n bits
and_not : (n x m y : ℕ) → x < 2 ^ n → m + y + 1 ≡ 2 ^ n → bit_and x y + bit_and x m ≡ x
and_not zero x m y h e =
    let z : x ≡ 0 = omega arith in
    rw z
and_not (suc n) x m y h e =
    let p = pow-suc 2 n in
    let ih = and_not n (x / 2) (m / 2) (y / 2) (omega arith) (omega arith) in
    rw (and_step x y, and_step x m) (omega arith)

pub or_pow : (x j : ℕ) → bit_or x (2 ^ j) ≡ with_bit x j
unfolding with_bit
or_pow x j =
    let o = or_add_and x (2 ^ j) in
    elim (bool_cases (test_bit x j)) [
      | inl e ↦ rw e (omega (arith, rw (set_digit x j e) at (and_pow x j)))
      | inr e ↦ rw e (omega (arith, rw (unset x j e) at (and_pow x j)))
    ]

-- a number with bit j set by a mask that is shifted among 64 bits
pub or_shifted : {r v x j : ℕ} → v ≡ x → r ≡ bit_or v (1 * 2 ^ j % 2 ^ 64) → j < 64 → r ≡ with_bit x j
or_shifted {v = v} {j = j} e f h = f ∙ rw (one_shl 64 j h, ← e) (or_pow v j)

pub and_not_pow : (w x j : ℕ) → x < 2 ^ w → j < w → bit_and x (2 ^ w - 1 - 2 ^ j) ≡ without_bit x j
unfolding without_bit
and_not_pow w x j hx hj =
    let whole = and_not w x (2 ^ j) (2 ^ w - 1 - 2 ^ j) hx (omega (arith, pow-lt hj)) in
    elim (bool_cases (test_bit x j)) [
      | inl e ↦ rw e (omega (arith, rw (set_digit x j e) at (and_pow x j)))
      | inr e ↦ rw e (omega (arith, rw (unset x j e) at (and_pow x j)))
    ]

-- ---- a bit cleared

pub set_within : (x j : ℕ) → test_bit x j ≡ true → 2 ^ j ≤ x
set_within x j e = elim (dec_lt x (2 ^ j)) [ yes l ↦ let z = div-eq_of_lt l in absurd (omega (arith, set_digit x j e)) | no l ↦ omega arith ]

less_unset : (x j : ℕ) → test_bit x j ≡ true → test_bit (x - 2 ^ j) j ≡ false
unfolding test_bit
less_unset x j e =
    let z = div-eq-sub-div (pow_pos j) (set_within x j e) in
    ne_eqb ((x - 2 ^ j) / 2 ^ j % 2) 1 (λ q. omega (arith, set_digit x j e))

pub without_bit_same : (x j : ℕ) → test_bit (without_bit x j) j ≡ false
unfolding without_bit
without_bit_same x j = elim (bool_cases (test_bit x j)) [ inl e ↦ rw e (less_unset x j e) | inr e ↦ rw e e ]

pub without_bit_less : (x j : ℕ) → test_bit x j ≡ true → without_bit x j < x
unfolding without_bit
without_bit_less x j e = rw e (omega (arith, set_within x j e, pow_pos j))

-- a word with a bit set is the word without it, with the bit put in
pub without_bit_other : (x i j : ℕ) → (i ≡ j → ⊥) → test_bit (without_bit x j) i ≡ test_bit x i
unfolding without_bit with_bit
without_bit_other x i j ne =
    elim (bool_cases (test_bit x j)) [
      | inl e ↦
          let back : with_bit (x - 2 ^ j) j ≡ x = rw (less_unset x j e) (omega (arith, set_within x j e)) in
          rw e (sym (with_bit_other (x - 2 ^ j) i j ne) ∙ ap (λ y. test_bit y i) back)
      | inr e ↦ rw e
    ]

pub clear_same : (w : ℕ) (ws : List ℕ) (g : ℕ) → g / w < length ws → bit w (clear_bit w ws g) g ≡ false
unfolding bit clear_bit
clear_same w ws g h = rw (nth_put_same ws (g / w)) (without_bit_same (nth ws (g / w)) (g % w))

pub clear_other : (w : ℕ) (ws : List ℕ) (g h : ℕ) → (h ≡ g → ⊥) → bit w (clear_bit w ws g) h ≡ bit w ws h
unfolding clear_bit
clear_other w ws g h ne = bit_put_other w ws g h _ ne (λ i n. without_bit_other (nth ws (g / w)) i (g % w) n)

pub length_clear_bit : (w : ℕ) (ws : List ℕ) (g : ℕ) → length (clear_bit w ws g) ≡ length ws
unfolding clear_bit
length_clear_bit w ws g = length_put ws _ _
