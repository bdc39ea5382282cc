-- Bits of bit words, for any width.
use mathlib.Core.Path.{◌≡◌, refl, sym, ap, ◌∙◌}
use mathlib.Core.Logic.{inl, inr}
use mathlib.Core.Bool.{Bool, true, false}
use mathlib.Core.List.{List}
use Prim.Native.Nat.{ℕ, zero, suc, ◌+◌, ◌-◌, ◌/◌, ◌%◌, ◌^◌, ◌≤◌, ◌<◌, zero-le, suc-le-suc}
use native.Mathlib.Nat.{add-div_right, add-mul-div_right, pow-suc, div-add-mod', zero-div, div-zero, div-mul-le_self, le-div_iff_mul-le}
use native.Mathlib.Decide.{ℕ_discrete, dec_lt}
use native.Mathlib.Omega.{arith}
use lib.Dec.{eqb}
use lib.ListN.{length, replicate}
use lib.Pow.{pow_pos, pow-add, shr-shr}
use borrow.Author.Tests.{eqb-false, eq-eqb}
use Rattle.model.specs.Base.{nth, put, test_bit, with_bit, bit, set_bit, add_bits}
use Rattle.model.proofs.Laws.{false≢, bool_cases, nth_out, nth_replicate, nth_put_same, nth_put_other, put_out, length_put}

below_bit : (x i d : ℕ) → (x + 2 ^ (suc d + i)) / 2 ^ i % 2 ≡ x / 2 ^ i % 2
below_bit x i d = rw (pow-add 2 (suc d) i, add-mul-div_right x (2 ^ suc d) (pow_pos i), pow-suc 2 d) (omega arith)

above_bit : (x j d : ℕ) → x / 2 ^ j % 2 ≡ 0 → (x + 2 ^ j) / 2 ^ (j + (1 + d)) ≡ x / 2 ^ (j + (1 + d))
above_bit x j d e =
    let half : (x / 2 ^ j + 1) / 2 ^ 1 ≡ x / 2 ^ j / 2 ^ 1 = omega arith in
    simp (← shr-shr, add-div_right x (pow_pos j), half)

pub unset : (x j : ℕ) → test_bit x j ≡ false → x / 2 ^ j % 2 ≡ 0
unfolding test_bit
unset x j e = omega (arith, eqb-false (x / 2 ^ j % 2) 1 e)

pub with_bit_same : (x j : ℕ) → test_bit (with_bit x j) j ≡ true
unfolding with_bit test_bit
with_bit_same x j =
    elim (bool_cases (test_bit x j)) [
      | inl e ↦ rw e e
      | inr e ↦ rw e (eq-eqb ((x + 2 ^ j) / 2 ^ j % 2) 1 (rw (add-div_right x (pow_pos j)) (omega (arith, unset x j e))))
    ]

pub with_bit_other : (x i j : ℕ) → (i ≡ j → ⊥) → test_bit (with_bit x j) i ≡ test_bit x i
unfolding with_bit test_bit
with_bit_other x i j ne =
    elim (bool_cases (test_bit x j)) [
      | inl e ↦ rw e
      | inr e ↦ elim (dec_lt i j) [
        | yes lt ↦ let eq : suc (j - i - 1) + i ≡ j = omega arith in rw e (ap (λ y. eqb y 1) (rw eq at (below_bit x i (j - i - 1))))
        | no ge ↦ let eq : j + (1 + (i - j - 1)) ≡ i = omega arith in rw e (ap (λ y. eqb (y % 2) 1) (rw eq at (above_bit x j (i - j - 1) (unset x j e))))
      ]
    ]

-- g's word becomes v, which differs from it in g's bit alone
pub bit_put_other : (w : ℕ) (ws : List ℕ) (g h v : ℕ) → (h ≡ g → ⊥) → ((i : ℕ) → (i ≡ g % w → ⊥) → test_bit v i ≡ test_bit (nth ws (g / w)) i)
    → bit w (put ws (g / w) v) h ≡ bit w ws h
unfolding bit
bit_put_other w ws g h v ne f =
    elim (ℕ_discrete (h / w) (g / w)) [
      | no a ↦ rw (nth_put_other ws (g / w) (h / w))
      | yes a ↦ elim (dec_lt (g / w) (length ws)) [
        | yes l ↦ rw (a, nth_put_same ws (g / w) v l) (f (h % w) (λ b. ne (sym (div-add-mod' h w) ∙ rw (a, b) (div-add-mod' g w))))
        | no l ↦ rw (put_out ws (g / w) v (omega arith))
      ]
    ]

pub set_bit_same : (w : ℕ) (ws : List ℕ) (g : ℕ) → g / w < length ws → bit w (set_bit w ws g) g ≡ true
unfolding bit set_bit
set_bit_same w ws g h = rw (nth_put_same ws (g / w)) (with_bit_same (nth ws (g / w)) (g % w))

pub set_bit_other : (w : ℕ) (ws : List ℕ) (g h : ℕ) → (h ≡ g → ⊥) → bit w (set_bit w ws g) h ≡ bit w ws h
unfolding set_bit
set_bit_other w ws g h ne = bit_put_other w ws g h _ ne (λ i n. with_bit_other (nth ws (g / w)) i (g % w) n)

pub set_bit_keeps : (w : ℕ) (ws : List ℕ) (g h : ℕ) → g / w < length ws → bit w ws h ≡ true → bit w (set_bit w ws g) h ≡ true
set_bit_keeps w ws g h l e = elim (ℕ_discrete h g) [ yes q ↦ rw q (set_bit_same w ws g l) | no ne ↦ set_bit_other w ws g h ne ∙ e ]

pub length_set_bit : (w : ℕ) (ws : List ℕ) (g : ℕ) → length (set_bit w ws g) ≡ length ws
unfolding set_bit
length_set_bit w ws g = length_put ws _ _

-- what it keeps to set a bit below n, they keep
pub add_bits_keeps : (P : List ℕ → Type 0) (w : ℕ) (p : ℕ → Bool) (n : ℕ) → ((i : ℕ) (r : List ℕ) → i < n → P r → P (set_bit w r i))
    → (l : List ℕ) → P l → P (add_bits w p n l)
unfolding add_bits
add_bits_keeps P w p zero c l q = q
add_bits_keeps P w p (suc n) c l q =
    let h = add_bits_keeps P w p n (λ i r b. c i r (omega arith)) l q in
    elim (bool_cases (p n)) [ inl e ↦ rw e (c n (add_bits w p n l) (omega arith) h) | inr e ↦ rw e h ]

pub length_add_bits : (w : ℕ) (p : ℕ → Bool) (n : ℕ) (l : List ℕ) → length (add_bits w p n l) ≡ length l
length_add_bits w p n l = add_bits_keeps (λ r. length r ≡ length l) w p n (λ i r b e. length_set_bit w r i ∙ e) l refl

pub add_bits_past : (w : ℕ) (p : ℕ → Bool) (n : ℕ) (l : List ℕ) (g : ℕ) → n ≤ g → bit w (add_bits w p n l) g ≡ bit w l g
add_bits_past w p n l g h = add_bits_keeps (λ r. bit w r g ≡ bit w l g) w p n (λ i r b e. set_bit_other w r i g (omega arith) ∙ e) l refl

pub add_bits_bit : (w : ℕ) (p : ℕ → Bool) (n : ℕ) (l : List ℕ) (g : ℕ) → g < n → ((h : ℕ) → h < n → h / w < length l) → ((h : ℕ) → bit w l h ≡ false) → bit w (add_bits w p n l) g ≡ p g
unfolding add_bits
add_bits_bit w p zero l g h k z = absurd (omega arith)
add_bits_bit w p (suc n) l g h k z =
    let r : List ℕ = add_bits w p n l in
    elim (bool_cases (p n)) [
      | inl q ↦ elim (ℕ_discrete g n) [
        | yes e ↦ rw (e, q) (set_bit_same w r n (rw (length_add_bits w p n l) (k n (omega arith))))
        | no ne ↦ rw q (set_bit_other w r n g ne ∙ add_bits_bit w p n l g (omega arith) (λ i j. k i (omega arith)) z)
      ]
      | inr q ↦ elim (ℕ_discrete g n) [
        | yes e ↦ rw (e, q) (add_bits_past w p n l n (omega arith) ∙ z n)
        | no ne ↦ rw q (add_bits_bit w p n l g (omega arith) (λ i j. k i (omega arith)) z)
      ]
    ]

-- ---- bits that are not set

-- where all words are 0
pub no_bit : (w : ℕ) (ws : List ℕ) → ((i : ℕ) → nth ws i ≡ 0) → (g : ℕ) → bit w ws g ≡ false
unfolding bit test_bit
no_bit w ws z g = rw (z (g / w), zero-div (2 ^ (g % w))) refl

pub bit_zeros : (w n g : ℕ) → bit w (replicate n 0) g ≡ false
bit_zeros w n g = no_bit w (replicate n 0) (nth_replicate n) g

-- behind n where the words end there
pub bit_past : (w n : ℕ) (ws : List ℕ) (g : ℕ) → length ws ≡ n / w → n ≤ g → bit w ws g ≡ false
unfolding bit test_bit
bit_past zero n ws g e h = rw (nth_out ws (g / 0) (omega (arith, div-zero n)), zero-div (2 ^ (g % 0)))
bit_past (suc v) n ws g e h =
    let l : n / suc v ≤ g / suc v = (le-div_iff_mul-le {k = suc v} (suc-le-suc zero-le)).1 (omega (arith, div-mul-le_self n (suc v))) in
    rw (nth_out ws (g / suc v) (omega arith), zero-div (2 ^ (g % suc v)))

pub bit_within : (w n : ℕ) (ws : List ℕ) (g : ℕ) → length ws ≡ n / w → bit w ws g ≡ true → g < n
bit_within w n ws g e q = elim (dec_lt g n) [ yes h ↦ h | no h ↦ false≢ (sym (bit_past w n ws g e (omega arith)) ∙ q) ]
