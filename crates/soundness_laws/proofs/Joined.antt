-- The bit words of a card joined into one number of 64 bits.
use Rattle.std.proofs.Common.{◌≡◌, ◌∙◌, sym, ap, List, ℕ, suc, ◌+◌, ◌*◌, ◌-◌, ◌/◌, ◌%◌, ◌^◌, ◌≤◌, ◌<◌, ◌⊎◌, arith, add-one}
use native.Mathlib.Decide.{dec_lt}
use native.Mathlib.Numerals.{add-one-le}
use native.Mathlib.Nat.{mul-suc, mul-add, add_comm, mul_assoc, lt_of_lt_of_le, mul-le-mul_left, add-mul-div_right, pow-suc}
use lib.Arith.{digits_lt}
use lib.Pow.{pow_pos, pow_mono, pow-add, shl_exact, shr-shr, high}
use lib.Dec.{eqb}
use Rattle.model.specs.Base.{nth, test_bit, bit}
use Rattle.image_laws.proofs.Bits.{bit_at}
use Rattle.image_laws.proofs.Places.{by_width}
use Rattle.soundness_laws.specs.Sets.{CardBits}

-- ---- a number y above n low bits, which are x

below_high : (x y j d : ℕ) → test_bit (y * 2 ^ (suc d + j) + x) j ≡ test_bit x j
unfolding test_bit
below_high x y j d =
    rw
    (pow-add 2 (suc d) j, ← (mul_assoc y (2 ^ suc d) (2 ^ j)), add_comm (y * 2 ^ suc d * 2 ^ j) x, add-mul-div_right x (y * 2 ^ suc d) (pow_pos j), pow-suc 2 d)
    (ap (λ b. eqb b 1) (omega arith))

above_low : (x y n d : ℕ) → x < 2 ^ n → test_bit (y * 2 ^ n + x) (n + d) ≡ test_bit y d
unfolding test_bit
above_low x y n d h = rw (← (shr-shr (y * 2 ^ n + x) n d), high y n h)

module _ (x y n j : ℕ) where
  low_bit : j < n → test_bit (y * 2 ^ n + x) j ≡ test_bit x j
  low_bit l = let e : suc (n - j - 1) + j ≡ n = omega arith in rw e at (below_high x y j (n - j - 1))

  high_bit : x < 2 ^ n → n ≤ j → test_bit (y * 2 ^ n + x) j ≡ test_bit y (j - n)
  high_bit h l = let e : n + (j - n) ≡ j = omega arith in rw e at (above_low x y n (j - n) h)

-- ---- word after word: `x` is made of the first i of the t words from word a on

pub record Joined (w : ℕ) (ws : List ℕ) (a t x i : ℕ) : Type 0 where
  pub within : i ≤ t
  pub below : x < 2 ^ (w * i)
  pub joined : (j : ℕ) → j < w * i → test_bit x j ≡ bit w ws (w * a + j)

module _ (w : ℕ) (ws : List ℕ) (a t : ℕ) where
  pub joined_none : Joined w ws a t 0 0
  joined_none = record { within = omega arith; below = pow_pos (w * 0); joined = λ j h. absurd (omega arith) }

  -- the next of them is y
  module _ (x i j y : ℕ) (c : Joined w ws a t x i) (h : i < t) (e : y ≡ nth ws j) (q : a + i ≡ j) (ly : y < 2 ^ w) (room : w * t ≤ 64) where
    next_end : w * (i + 1) ≡ w + w * i
    next_end = rw (add-one i, mul-suc w i) (add_comm (w * i) w)

    end_within : w + w * i ≤ 64
    end_within = omega (arith, next_end, mul-le-mul_left w (add-one-le h))

    next_is : x + y * 2 ^ (w * i) % 2 ^ 64 ≡ y * 2 ^ (w * i) + x
    next_is = rw (shl_exact w (w * i) 64 ly end_within) (add_comm x (y * 2 ^ (w * i)))

    next_bits : (b : ℕ) → b < w * (i + 1) → test_bit (y * 2 ^ (w * i) + x) b ≡ bit w ws (w * a + b)
    next_bits b l = elim (dec_lt b (w * i)) [
      | yes p ↦ low_bit x y (w * i) b p ∙ c.joined b p
      | no p ↦
          let o : w * j + (b - w * i) ≡ w * a + b = rw (← q, mul-add w a i) (omega arith) in
          high_bit x y (w * i) b c.below (omega arith) ∙ (rw (e, ← o) (sym (bit_at w ws j (b - w * i) (omega (arith, next_end)))))
    ]

    pub joined_more : Joined w ws a t (x + y * 2 ^ (w * i) % 2 ^ 64) (i + 1)
    joined_more = rw next_is (record { within = omega arith; below = rw (next_end, pow-add 2 w (w * i)) (digits_lt ly c.below); joined = next_bits })

    pub joined_fits : x + y * 2 ^ (w * i) % 2 ^ 64 < 2 ^ 64
    joined_fits = lt_of_lt_of_le joined_more.below (pow_mono {j = 64} (rw next_end end_within))

-- ---- all of them: those of card c, n to a card

module _ (w : ℕ) (o : (w ≡ 16) ⊎ (w ≡ 32)) (n : ℕ) (e : n ≡ 64 / w) where
  pub card_full : w * n ≡ 64
  card_full = rw e (by_width (λ w. w * (64 / w) ≡ 64) (omega arith) (omega arith) o)

  pub cards_full : (k : ℕ) → n * k ≡ 64 * k / w
  cards_full k = rw e (by_width (λ w. 64 / w * k ≡ 64 * k / w) (omega arith) (omega arith) o)

  pub joined_card : (ws : List ℕ) (c x i : ℕ) → Joined w ws (n * c) n x i → n ≤ i → CardBits w ws c x
  joined_card ws c x i s h =
      let q : i ≡ n = omega (arith, s.within) in
      let f : w * (n * c) ≡ 64 * c = rw (← (mul_assoc w n c), card_full) in
      record { each = λ j l. rw f at (s.joined j (rw (q, card_full) l)) }
