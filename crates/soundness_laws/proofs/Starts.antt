-- Starts counted, and objects seen beside them.
use Rattle.soundness_laws.specs.Tests.{onward}
use Rattle.soundness_laws.proofs.Ones.{many_append, many_first, OnesCounted, ones_end}
use Rattle.model.specs.Base.{all, how_many}
use Rattle.model.specs.Image.{Image, image, image_of, is_start}
use Rattle.model.proofs.Counts.{how_many_same, how_many_none, none_how_many}
use Rattle.model.proofs.Laws.{and_split, and_join, same_test, not_make, all_use, all_make}
use Rattle.image_laws.specs.Digits.{start_bit}
use Rattle.image_laws.specs.Sized.{Sized}
use Rattle.image_laws.proofs.Lengths.{sized_width}
use Rattle.image_laws.proofs.Places.{words_full}
use Prim.Native.Nat.{ℕ, suc, ◌+◌, ◌*◌, ◌-◌, ◌/◌, ◌≤◌}
use mathlib.Core.Path.{◌≡◌, ap, ◌∙◌}
use mathlib.Core.Bool.{Bool, not, ◌&&◌}
use mathlib.Core.List.{List}
use native.Mathlib.Omega.{arith}
use lib.Dec.{eqb}
use borrow.Author.Tests.{eqb-true, not-true, eq-eqb}
use native.Mathlib.Nat.{mul-zero, zero-add}

module _ (m : Image) where
  unfoldable pub not_start : ℕ → ℕ → Bool
  not_start a i = not (is_start m (a + i))

  -- none of the n granules from a on is a start
  unfoldable pub clear : ℕ → ℕ → Bool
  clear a n = all n (not_start a)

  clear_is : (a n : ℕ) → clear a n ≡ eqb (how_many (onward a (is_start m)) n) 0
  unfolding clear not_start onward
  clear_is a n =
      same_test _ _
      (λ e. eq-eqb _ _ (how_many_none _ n (λ i h. not-true _ (all_use n (not_start a) e i h))))
      (λ e. all_make n (not_start a) (λ i h. not_make _ (none_how_many _ n (eqb-true _ _ e) i h)))

  count_piece : (g s : ℕ) → 1 ≤ s → how_many (is_start m) (g + s) ≡ how_many (is_start m) g + (start_bit m g + how_many (onward (g + 1) (is_start m)) (s - 1))
  count_piece g s p = let e : suc (s - 1) ≡ s = omega arith in many_append (is_start m) g s ∙ ap (λ (x : ℕ). how_many (is_start m) g + x) (rw e at (many_first (is_start m) g (s - 1)))

  -- as many objects seen as starts, behind a piece of s granules at g
  pub seen_more : (g s seen : ℕ) → 1 ≤ s → seen ≤ how_many (is_start m) g → eqb (seen + start_bit m g) (how_many (is_start m) (g + s)) ≡ (eqb seen (how_many (is_start m) g) && clear (g + 1) (s - 1))
  seen_more g s seen p h =
      let c : how_many (is_start m) (g + s) ≡ how_many (is_start m) g + (start_bit m g + how_many (onward (g + 1) (is_start m)) (s - 1)) = count_piece g s p in
      rw (clear_is (g + 1) (s - 1)) (same_test _ _
      (λ e.
      let q : seen + start_bit m g ≡ how_many (is_start m) (g + s) = eqb-true _ _ e in
      and_join _ _ (eq-eqb seen (how_many (is_start m) g) (omega arith)) (eq-eqb (how_many (onward (g + 1) (is_start m)) (s - 1)) 0 (omega arith)))
      (λ e.
      let a : seen ≡ how_many (is_start m) g = eqb-true _ _ (and_split _ _ e).0 in
      let b : how_many (onward (g + 1) (is_start m)) (s - 1) ≡ 0 = eqb-true _ _ (and_split (eqb seen (how_many (is_start m) g)) _ e).1 in
      eq-eqb (seen + start_bit m g) (how_many (is_start m) (g + s)) (omega arith)))

  pub seen_few : (g s seen : ℕ) → 1 ≤ s → seen ≤ how_many (is_start m) g → seen + start_bit m g ≤ how_many (is_start m) (g + s)
  seen_few g s seen p h = rw (count_piece g s p) (omega arith)

-- the start bits of all words
pub starts_end : (w k : ℕ) (l : List ℕ) (n i : ℕ) → Sized w k l → OnesCounted w (image_of w k l).starts 0 (64 * k / w) n i → 64 * k / w ≤ i → n ≡ how_many (is_start (image_of w k l)) (64 * k)
unfolding onward is_start image_of image
starts_end w k l n i z c h =
    rw (mul-zero w, words_full w k (sized_width z)) at (ones_end w (image_of w k l).starts 0 (64 * k / w) n i c h)
    ∙ how_many_same _ _ (64 * k) (λ j q. rw zero-add)
