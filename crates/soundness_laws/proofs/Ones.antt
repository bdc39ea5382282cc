-- How many numbers pass a test, in pieces; how many bits of some bit words are set, by the ones of each word.
use Rattle.soundness_laws.specs.Tests.{onward}
use Rattle.model.specs.Base.{nth, how_many, bit}
use Rattle.model.proofs.Counts.{how_many_same, how_many_most}
use Rattle.image_laws.specs.Digits.{digit}
use Rattle.image_laws.proofs.Bits.{bit_at}
use Rattle.image_laws.proofs.Digits.{bit_digit}
use Prim.Native.Nat.{ℕ, zero, suc, ◌+◌, ◌*◌, ◌/◌, ◌%◌, ◌^◌, ◌≤◌, ◌<◌}
use mathlib.Core.Path.{◌≡◌, refl, sym, ap, ◌∙◌}
use mathlib.Core.Bool.{Bool, cond}
use mathlib.Core.List.{List}
use native.Mathlib.Omega.{arith}
use lib.Pow.{shr-shr}
use lib.Count.{ones_in, ones, ones_step}
use native.Mathlib.Numerals.{add-one}
use native.Mathlib.Nat.{add-zero, add-suc, mul-zero, mul-suc, zero-add, add_assoc, mul-add, div-eq_of_lt, div-one}

-- ---- in pieces

module _ (p : ℕ → Bool) where
  pub many_append : (n j : ℕ) → how_many p (n + j) ≡ how_many p n + how_many (onward n p) j
  unfolding how_many onward
  many_append n zero = rw (add-zero n) (sym (add-zero (how_many p n)))
  many_append n (suc j) = rw (add-suc n j, many_append n j) (omega arith)

  many_onward : (a n j : ℕ) → how_many (onward n (onward a p)) j ≡ how_many (onward (a + n) p) j
  unfolding onward
  many_onward a n j = how_many_same _ _ j (λ i h. ap p (sym (add_assoc a n i)))

module _ (p : ℕ → Bool) where
  pub many_first : (a n : ℕ) → how_many (onward a p) (suc n) ≡ digit (p a) + how_many (onward (a + 1) p) n
  unfolding how_many onward digit
  many_first a n =
      let e : 1 + n ≡ suc n = omega arith in
      rw (e, many_onward p a 1 n, add-zero a, zero-add (cond (p a) 1 0)) at (many_append (onward a p) 1 n)

-- ---- by words of w bits

-- word i
module _ (w : ℕ) (ws : List ℕ) (i : ℕ) (small : nth ws i < 2 ^ w) where
  ones_from : (n j : ℕ) → j + n ≡ w → ones (nth ws i / 2 ^ j) ≡ how_many (onward (w * i + j) (bit w ws)) n
  unfolding how_many ones ones_in
  ones_from zero j h = let p : j ≡ w = omega arith in rw (p, div-eq_of_lt small)
  ones_from (suc n) j h =
      let t : w * i + j + 1 ≡ w * i + (j + 1) = omega arith in
      let b : digit (bit w ws (w * i + j)) ≡ nth ws i / 2 ^ j % 2 = rw (bit_at w ws i j (omega arith)) (bit_digit (nth ws i) j) in
      ones_step (nth ws i / 2 ^ j) ∙ (rw (← b, shr-shr (nth ws i) j 1, ones_from n (j + 1) (omega arith), ← t) refl ∙ sym (many_first (bit w ws) (w * i + j) n))

  pub word_ones : ones (nth ws i) ≡ how_many (onward (w * i) (bit w ws)) w
  word_ones = rw (add-zero (w * i), div-one (nth ws i)) at (ones_from w 0 (zero-add w))

-- `n` bits are set in the first i of the words from word a on, which are t
pub record OnesCounted (w : ℕ) (ws : List ℕ) (a t n i : ℕ) : Type 0 where
  pub within : i ≤ t
  pub so_far : n ≡ how_many (onward (w * a) (bit w ws)) (w * i)

module _ (w : ℕ) (ws : List ℕ) (a t : ℕ) where
  pub ones_none : OnesCounted w ws a t 0 0
  unfolding how_many
  ones_none = record { within = omega arith; so_far = rw (mul-zero w) refl }

  pub ones_small : (n i : ℕ) → OnesCounted w ws a t n i → n ≤ w * i
  ones_small n i c = omega (arith, c.so_far, how_many_most (onward (w * a) (bit w ws)) (w * i))

  pub ones_more : (n i j x : ℕ) → OnesCounted w ws a t n i → i < t → x ≡ nth ws j → a + i ≡ j → x < 2 ^ w → OnesCounted w ws a t (n + ones x) (i + 1)
  ones_more n i j x c h e q lx =
      let s : w * i + w ≡ w * (i + 1) = rw (add-one i) (sym (mul-suc w i)) in
      let f : x ≡ nth ws (a + i) = rw q e in
      let o : ones x ≡ how_many (onward (w * a + w * i) (bit w ws)) w = rw (← f, mul-add w a i) at (word_ones w ws (a + i) (rw f at lx)) in
      record { within = omega arith; so_far = rw (c.so_far, o, ← s, many_append (onward (w * a) (bit w ws)) (w * i) w, many_onward (bit w ws) (w * a) (w * i) w) }

  pub ones_end : (n i : ℕ) → OnesCounted w ws a t n i → t ≤ i → n ≡ how_many (onward (w * a) (bit w ws)) (w * t)
  ones_end n i c h = let e : i ≡ t = omega (arith, c.within) in rw e at c.so_far
