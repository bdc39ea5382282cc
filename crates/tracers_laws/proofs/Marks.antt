-- The mark bits of a card gathered in one number, and the next marked granule by its trailing zeros.
use mathlib.Core.Path.{◌≡◌, refl, sym, ◌∙◌}
use mathlib.Core.Bool.{true, false}
use mathlib.Core.List.{List}
use Prim.Native.Nat.{ℕ, zero, suc, ◌+◌, ◌*◌, ◌-◌, ◌/◌, ◌%◌, ◌^◌, ◌<◌, ◌≤◌}
use native.Mathlib.Nat.{mul-add, mul-suc, suc-mul, mul-le-mul_right, add_comm, zero-add, suc-add, add-zero, zero-div, div-le_self}
use native.Mathlib.Numerals.{add-one}
use native.Mathlib.Decide.{dec_lt}
use native.Mathlib.Omega.{arith}
use lib.Bits.{bit_or, or_shifted_r}
use lib.Pow.{pow-add, pow_pos, shr-shr, pow_mono, shl_exact, low, high, field, mod-mod-pow}
use lib.Count.{count_trailing_zeros}
use Rattle.model.specs.Base.{nth, test_bit}
use Rattle.model.specs.Image.{Image, image_of, image, marked}
use Rattle.model.specs.Collect.{next_marked}
use Rattle.model.proofs.Laws.{false≢}
use Rattle.image_laws.specs.Sized.{Sized}
use Rattle.image_laws.proofs.Leading.{test_past}
use Rattle.image_laws.proofs.Lengths.{sized_width}
use Rattle.image_laws.proofs.Bits.{bit_at}
use Rattle.image_laws.proofs.Places.{by_width, words_begin}
use Rattle.image_laws.proofs.Trailing.{Lowest, trailing_lowest}
use Rattle.tracers_laws.specs.Marks.{CardMarks}

-- ---- a number above n bits of another

module _ (h l n : ℕ) (s : l < 2 ^ n) where
  low_bit : (j : ℕ) → j < n → test_bit (h * 2 ^ n + l) j ≡ test_bit l j
  unfolding test_bit
  low_bit j i =
      let e : n - suc j + 1 + j ≡ n = omega arith in
      let f : l / 2 ^ j ≡ (h * 2 ^ n + l) / 2 ^ j % 2 ^ (n - suc j + 1) = rw (e, low h n s) at (field (h * 2 ^ n + l) (n - suc j + 1) j) in
      rw (f, mod-mod-pow ((h * 2 ^ n + l) / 2 ^ j) (n - suc j) 1)

  high_bit : (j : ℕ) → test_bit (h * 2 ^ n + l) (n + j) ≡ test_bit h j
  unfolding test_bit
  high_bit j = rw (← (shr-shr (h * 2 ^ n + l) n j), high h n s)

  below_top : (w : ℕ) → h < 2 ^ w → h * 2 ^ n + l < 2 ^ (w + n)
  below_top w t =
      let q : suc h * 2 ^ n ≤ 2 ^ w * 2 ^ n = mul-le-mul_right (2 ^ n) t in
      rw (pow-add 2 w n) (omega (arith, suc-mul h (2 ^ n)))

-- ---- the words of a card, one by one

-- x has the mark bits of the first i words of card c
pub record MarksBelow (w : ℕ) (m : Image) (c i x : ℕ) : Type 0 where
  pub small : x < 2 ^ (w * i)
  pub bits : (j : ℕ) → j < w * i → test_bit x j ≡ marked m (64 * c + j)

pub marks_none : (w : ℕ) (m : Image) (c : ℕ) → MarksBelow w m c 0 0
marks_none w m c = record { small = pow_pos (w * 0); bits = λ j h. absurd (omega arith) }

module _ (w k : ℕ) (ws : List ℕ) (z : Sized w k ws) (c i x : ℕ) (o : MarksBelow w (image_of w k ws) c i x) where
  pub marks_all : 64 / w ≤ i → CardMarks (image_of w k ws) c x
  marks_all h =
      let n : 64 ≤ w * i = by_width (λ w. 64 / w ≤ i → 64 ≤ w * i) (λ h. omega arith) (λ h. omega arith) (sized_width z) h in
      record { bits = λ j l. o.bits j (omega arith) }

  module _ (h : i < 64 / w) (v : ℕ) (e : v ≡ nth (image_of w k ws).marks (64 / w * c + i)) (l : v < 2 ^ w) where
    next_bit : (j : ℕ) → j < w → test_bit v j ≡ marked (image_of w k ws) (64 * c + (w * i + j))
    unfolding marked image_of image
    next_bit j b =
        let a : ℕ = 64 / w * c + i in
        let q : 64 * c + (w * i + j) ≡ w * a + j = omega (arith, words_begin w c (64 / w * c) (sized_width z) refl, mul-add w (64 / w * c) i) in
        rw (q, bit_at w (image_of w k ws).marks a j b, e)

    pub marks_more : MarksBelow w (image_of w k ws) c (i + 1) (bit_or x (v * 2 ^ (w * i) % 18446744073709551616))
    marks_more =
        let r : w * i + w ≤ 64 = by_width (λ w. i < 64 / w → w * i + w ≤ 64) (λ h. omega arith) (λ h. omega arith) (sized_width z) h in
        let s : v * 2 ^ (w * i) % 18446744073709551616 ≡ v * 2 ^ (w * i) = shl_exact w (w * i) 64 l (omega arith) in
        let n : w * (i + 1) ≡ w * i + w = rw (add-one i) (mul-suc w i) in
        rw
        (s, or_shifted_r v (w * i) x o.small)
        (record {
          small = rw (n, add_comm (w * i) w) (below_top v x (w * i) o.small w l);
          bits = λ j b. elim (dec_lt j (w * i)) [
            | yes d ↦ low_bit v x (w * i) o.small j d ∙ o.bits j d
            | no d ↦ let y : w * i + (j - w * i) ≡ j = omega arith in rw y at (high_bit v x (w * i) o.small (j - w * i) ∙ next_bit (j - w * i) (omega arith))
          ];
        })

-- ---- the next marked granule

-- past t granules with no mark
next_skip : (m : Image) (t n g : ℕ) → ((i : ℕ) → i < t → marked m (g + i) ≡ false) → next_marked m (t + n) g ≡ next_marked m n (g + t)
unfolding next_marked
next_skip m zero n g h = rw (zero-add n, add-zero g)
next_skip m (suc t) n g h =
    let e : marked m g ≡ false = rw (add-zero g) at (h 0 (omega arith)) in
    let s : g + suc t ≡ suc g + t = omega arith in
    rw (suc-add t n, e, next_marked, s) (next_skip m t n (suc g) (λ i l. let u : suc g + i ≡ g + suc i = omega arith in rw u (h (suc i) (omega arith))))

pub next_past : (m : Image) (c g : ℕ) → 64 * c ≤ g → 0 ≡ next_marked m (64 * c - g) g
unfolding next_marked
next_past m c g h = let z : 64 * c - g ≡ 0 = omega arith in rw z

module _ (m : Image) (c g x y : ℕ) (near : 64 * c ≤ g + 64) (inside : g < 64 * c) (b : CardMarks m (g / 64) x) (e : y ≡ x / 2 ^ (g % 64)) where
  shifted : (i : ℕ) → test_bit y i ≡ test_bit x (g % 64 + i)
  unfolding test_bit
  shifted i = rw (e, shr-shr x (g % 64) i)

  shifted_mark : (i : ℕ) → i < 64 * c - g → test_bit y i ≡ marked m (g + i)
  shifted_mark i h =
      let q : 64 * (g / 64) + (g % 64 + i) ≡ g + i = omega arith in
      shifted i ∙ rw q at (b.bits (g % 64 + i) (omega arith))

  pub next_none : y ≡ 0 → 0 ≡ next_marked m (64 * c - g) g
  unfolding test_bit next_marked
  next_none z = sym (rw add-zero at (next_skip m (64 * c - g) 0 g (λ i h. sym (shifted_mark i h) ∙ rw (z, zero-div (2 ^ i)))))

  pub next_found : (t : ℕ) → x < 2 ^ 64 → (y ≡ 0 → ⊥) → t ≡ count_trailing_zeros 64 y → g + t + 1 ≡ next_marked m (64 * c - g) g
  unfolding next_marked
  next_found t l z q =
      let small : y < 2 ^ 64 = omega (arith, div-le_self x (2 ^ (g % 64))) in
      let w : Lowest 64 y t = rw q (trailing_lowest 64 y small z) in
      let below : t < 64 * c - g = elim (dec_lt (g % 64 + t) 64) [
        | yes i ↦ omega arith
        | no i ↦ false≢ (sym (test_past x (g % 64 + t) (omega (arith, pow_mono {i = 64} {j = g % 64 + t} (omega arith)))) ∙ (sym (shifted t) ∙ w.is_set))
      ] in
      let d : t + suc (64 * c - g - suc t) ≡ 64 * c - g = omega arith in
      let here : marked m (g + t) ≡ true = sym (shifted_mark t below) ∙ w.is_set in
      rw (add-one, ← d, next_skip m t _ g (λ i h. sym (shifted_mark i (omega arith)) ∙ w.clear_below i h), here, next_marked)
