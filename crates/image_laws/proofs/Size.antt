-- The number of cards from the number of words, and what it says of a slice.
use mathlib.Core.Path.{◌≡◌, sym, ap, ◌∙◌}
use mathlib.Core.Logic.{◌⊎◌, inl, inr}
use mathlib.Core.Bool.{Bool, true, false}
use mathlib.Core.List.{List, [], ◌∷◌}
use Prim.Native.Nat.{ℕ, ◌+◌, ◌*◌, ◌-◌, ◌/◌, ◌<◌, ◌≤◌}
use native.Mathlib.Omega.{arith}
use borrow.Author.Tests.{le-leb, lt-leb, eq-eqb, ne_eqb, leb-true, eqb-true}
use lib.Dec.{leb, eqb}
use lib.ListN.{length}
use Rattle.model.specs.Base.{every}
use Rattle.model.specs.Image.{image_length, most_cards, cards_of, fits, image_of, parts}
use Rattle.model.proofs.Laws.{bool_cases, every_use}
use Rattle.model.proofs.Words.{width_cases, cards_length}
use native.Mathlib.Nat.{div-eq_of_lt, le-div_iff_mul-le}
use Rattle.std.proofs.Common.{Option, Some, None}
use Rattle.image_laws.specs.Size.{extent_by, extent_of}
use Rattle.image_laws.specs.Sized.{Sized}
use Rattle.image_laws.proofs.Places.{by_width}

-- the words that each card has, with b words of start bits, and those behind the cards
words_per_card : {w b : ℕ} → (w ≡ 16) ⊎ (w ≡ 32) → b ≡ 64 / w → (k : ℕ) → image_length w k ≡ (258 + 2 * b) * k + 1384
words_per_card o e k = rw e (by_width (λ w. image_length w k ≡ (258 + 2 * (64 / w)) * k + 1384) (omega arith) (omega arith) o)

-- ---- the ways out of `cards`

module _ {w b most : ℕ} (n : ℕ) (o : (w ≡ 16) ⊎ (w ≡ 32)) (e : b ≡ 64 / w) (lim : most ≡ most_cards w) where
  size_by : (fit : Bool) → every (leb 1 ((n - 1384) / (258 + 2 * b)) ∷ leb ((n - 1384) / (258 + 2 * b)) most ∷ eqb n ((258 + 2 * b) * ((n - 1384) / (258 + 2 * b)) + 1384) ∷ []) ≡ fit → extent_by fit ((n - 1384) / (258 + 2 * b)) ≡ extent_of w n
  unfolding extent_of fits cards_of
  size_by fit h =
      let per : (k : ℕ) → image_length w k ≡ (258 + 2 * b) * k + 1384 = words_per_card o e in
      let z : image_length w 0 ≡ 1384 = per 0 ∙ omega arith in
      let d : image_length w 1 - image_length w 0 ≡ 258 + 2 * b = omega (arith, per 1, per 0) in
      rw (d, z, ← lim, per, h)

  some_cards : 258 + 2 * b + 1384 ≤ n → 1 ≤ (n - 1384) / (258 + 2 * b)
  some_cards h = (le-div_iff_mul-le (omega arith)).1 (omega arith)

  pub cards_few : n < 258 + 2 * b + 1384 → None ≡ extent_of w n
  unfolding extent_by every
  cards_few h =
      let z : (n - 1384) / (258 + 2 * b) ≡ 0 = div-eq_of_lt (omega arith) in
      size_by false (rw (lt-leb 1 ((n - 1384) / (258 + 2 * b)) (omega arith)))

  pub cards_many : most < (n - 1384) / (258 + 2 * b) → None ≡ extent_of w n
  unfolding extent_by every
  cards_many h = size_by false (rw (le-leb 1 ((n - 1384) / (258 + 2 * b)) (omega arith), lt-leb ((n - 1384) / (258 + 2 * b)) most h))

  pub cards_odd : 258 + 2 * b + 1384 ≤ n → (n - 1384) / (258 + 2 * b) ≤ most → ((258 + 2 * b) * ((n - 1384) / (258 + 2 * b)) + 1384 ≡ n → ⊥) → None ≡ extent_of w n
  unfolding extent_by every
  cards_odd h l q =
      let k : ℕ = (n - 1384) / (258 + 2 * b) in
      size_by false (rw (le-leb 1 k (some_cards h), le-leb k most l, ne_eqb n ((258 + 2 * b) * k + 1384) (λ e. q (sym e))))

  pub cards_fit : 258 + 2 * b + 1384 ≤ n → (n - 1384) / (258 + 2 * b) ≤ most → (258 + 2 * b) * ((n - 1384) / (258 + 2 * b)) + 1384 ≡ n → Some ((n - 1384) / (258 + 2 * b)) ≡ extent_of w n
  unfolding extent_by every
  cards_fit h l q =
      let k : ℕ = (n - 1384) / (258 + 2 * b) in
      size_by true (rw (le-leb 1 k (some_cards h), le-leb k most l, eq-eqb n ((258 + 2 * b) * k + 1384) (sym q)))

-- ---- what the answer says

pub fits_sized : (w : ℕ) (ws : List ℕ) → fits w (length ws) ≡ true → Sized w (cards_of w (length ws)) ws
unfolding fits
fits_sized w ws e = record { low = leb-true _ _ (every_use _ e 0); high = leb-true _ _ (every_use _ e 1); long = eqb-true _ _ (every_use _ e 2) }

pub sized_cards : (w k : ℕ) (ws : List ℕ) → Sized w k ws → cards_of w (length ws) ≡ k
sized_cards w k ws z = rw z.long (cards_length w k (width_cases w k z.low z.high))

pub sized_parts : (w k : ℕ) (ws : List ℕ) → Sized w k ws → parts w ws ≡ image_of w k ws
unfolding parts
sized_parts w k ws z = ap (λ j. image_of w j ws) (sized_cards w k ws z)

module _ (w : ℕ) (ws : List ℕ) (s : Option ℕ) (e : s ≡ extent_of w (length ws)) where
  pub misfit_fits : s ≡ None → fits w (length ws) ≡ false
  unfolding extent_of extent_by
  misfit_fits q = elim (bool_cases (fits w (length ws))) [ inl h ↦ cc | inr h ↦ h ]

  module _ (k : ℕ) (q : s ≡ Some k) where
    pub cards_fits : fits w (length ws) ≡ true
    unfolding extent_of extent_by
    cards_fits = elim (bool_cases (fits w (length ws))) [ inl h ↦ h | inr h ↦ cc ]

    pub cards_sized : Sized w k ws
    unfolding extent_of extent_by
    cards_sized = let h = cards_fits in let c : cards_of w (length ws) ≡ k = cc in rw c at (fits_sized w ws h)

    pub cards_parts : parts w ws ≡ image_of w k ws
    cards_parts = sized_parts w k ws cards_sized
