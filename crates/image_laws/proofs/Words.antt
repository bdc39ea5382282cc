-- Lists of words that are equal word by word, and bit words of w bits that are equal bit by bit.
use mathlib.Core.Path.{◌≡◌, sym, ap, ◌∙◌}
use mathlib.Core.Logic.{◌⊎◌}
use mathlib.Core.Bool.{Bool}
use mathlib.Core.List.{List}
use Prim.Native.Nat.{ℕ, zero, suc, ◌+◌, ◌*◌, ◌/◌, ◌%◌, ◌^◌, ◌<◌, ◌≤◌}
use native.Mathlib.Nat.{pow-suc, mod-lt}
use native.Mathlib.Decide.{ℕ_discrete, dec_lt}
use native.Mathlib.Omega.{arith}
use lib.ListN.{length, replicate, length-replicate}
use lib.Bits.{or_lt}
use lib.Pow.{pow_pos, pow-lt}
use lib.Seq.{ext_get_or}
use Rattle.model.specs.Base.{nth, put, zeros, with_bit, bit, set_bit, add_bits}
use Rattle.model.proofs.Laws.{nth_out, nth_replicate, nth_put_same, nth_put_other, put_out}
use Rattle.model.proofs.Bits.{add_bits_keeps, length_add_bits, add_bits_bit, bit_zeros}
use Rattle.image_laws.specs.Digits.{digit, bit_of}
use Rattle.image_laws.proofs.Digits.{bit_half, bit_zero}
use Rattle.image_laws.proofs.Bits.{bit_at}
use Rattle.image_laws.proofs.Masks.{or_pow}
use Rattle.image_laws.proofs.Places.{place_in, some_bits, word_in, words_full}

pub nth_ext : (l r : List ℕ) → length l ≡ length r → ((i : ℕ) → i < length l → nth l i ≡ nth r i) → l ≡ r
unfolding nth
nth_ext l r e f = ext_get_or 0 l r e f

pub zero_words : (l r : List ℕ) → length l ≡ length r → ((i : ℕ) → nth l i ≡ 0) → l ≡ zeros r
unfolding zeros
zero_words l r e f = nth_ext l (replicate (length r) 0) (rw length-replicate e) (λ i h. f i ∙ sym (nth_replicate (length r) i))

-- a word that is not 0 lies in its list
pub nth_in : (l : List ℕ) (c : ℕ) → 1 ≤ nth l c → c < length l
nth_in l c h = elim (dec_lt c (length l)) [ yes b ↦ b | no b ↦ absurd (omega (arith, nth_out l c (omega arith))) ]

-- ---- a word of n bits

pub word_ext : (n x y : ℕ) → x < 2 ^ n → y < 2 ^ n → ((j : ℕ) → j < n → bit_of x j ≡ bit_of y j) → x ≡ y
word_ext zero x y hx hy f = omega arith
word_ext (suc n) x y hx hy f =
    let p = pow-suc 2 n in
    let z : x % 2 ≡ y % 2 = sym (bit_zero x) ∙ f 0 (omega arith) ∙ bit_zero y in
    let q : x / 2 ≡ y / 2 = word_ext n (x / 2) (y / 2) (omega arith) (omega arith) (λ j h. sym (bit_half x j) ∙ f (suc j) (omega arith) ∙ bit_half y j) in
    omega arith

with_bit_lt : (n x j : ℕ) → x < 2 ^ n → j < n → with_bit x j < 2 ^ n
with_bit_lt n x j hx hj = rw (← (or_pow x j)) (or_lt n x (2 ^ j) hx (pow-lt hj))

-- ---- words of w bits

abbrev pub Small : ℕ → List ℕ → Type 0
Small w l = (i : ℕ) → nth l i < 2 ^ w

put_small : (w : ℕ) (l : List ℕ) (i v : ℕ) → Small w l → v < 2 ^ w → Small w (put l i v)
put_small w l i v s h j =
    elim (ℕ_discrete j i) [
      | yes e ↦ elim (dec_lt i (length l)) [ yes b ↦ rw (e, nth_put_same l i v b) h | no b ↦ rw (put_out l i v (omega arith)) (s j) ]
      | no e ↦ rw (nth_put_other l i j v e) (s j)
    ]

add_bits_small : (w : ℕ) → 0 < w → (p : ℕ → Bool) (n : ℕ) (l : List ℕ) → Small w l → Small w (add_bits w p n l)
unfolding set_bit
add_bits_small w o p n = add_bits_keeps (Small w) w p n (λ i r b s. put_small w r (i / w) _ s (with_bit_lt w (nth r (i / w)) (i % w) (s (i / w)) (mod-lt i o)))

-- bit words are those that their bits add
module _ (w k : ℕ) (o : (w ≡ 16) ⊎ (w ≡ 32)) (p : ℕ → Bool) (l : List ℕ) (el : length l ≡ 64 * k / w) (s : Small w l) (f : (g : ℕ) → g < 64 * k → bit w l g ≡ p g) where
  pub bit_words : (z : List ℕ) → length z ≡ 64 * k / w → l ≡ add_bits w p (64 * k) (zeros z)
  unfolding zeros
  bit_words z ez =
      let zs : List ℕ = replicate (length z) 0 in
      let r : List ℕ = add_bits w p (64 * k) zs in
      let len : length r ≡ length z = length_add_bits w p (64 * k) zs ∙ length-replicate (length z) 0 in
      let none : Small w zs = λ i. rw (nth_replicate (length z) i) (pow_pos w) in
      let bits : (g : ℕ) → g < 64 * k → bit w l g ≡ bit w r g =
      λ g h. f g h ∙ sym (add_bits_bit w p (64 * k) zs g h (λ i q. rw (length-replicate {A = ℕ} (length z) 0, ez) (word_in w k o i q)) (bit_zeros w (length z))) in
      nth_ext l r (el ∙ sym ez ∙ sym len) (λ i h. word_ext w (nth l i) (nth r i) (s i) (add_bits_small w (some_bits w k o) p (64 * k) zs none i) (λ j hj.
      ap digit (sym (bit_at w l i j hj) ∙ bits (w * i + j) (omega (arith, place_in w i j hj (64 * k / w) (omega arith), words_full w k o)) ∙ bit_at w r i j hj)))
