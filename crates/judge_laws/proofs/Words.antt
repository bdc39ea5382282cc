-- Cover by the words of mark bits: the marked objects of a word, and all words.
use mathlib.Core.Path.{◌≡◌, sym, ap, ◌∙◌}
use mathlib.Core.Bool.{Bool, true, ◌&&◌, and-true, and_assoc}
use mathlib.Core.List.{List}
use Prim.Native.Nat.{ℕ, ◌+◌, ◌*◌, ◌-◌, ◌/◌, ◌%◌, ◌≤◌, ◌<◌, ◌^◌}
use native.Mathlib.Decide.{ℕ_discrete}
use native.Mathlib.Omega.{arith}
use lib.Bits.{bit_and}
use lib.Count.{count_trailing_zeros}
use Rattle.model.specs.Base.{nth, all, implies, test_bit}
use Rattle.model.specs.Image.{image, image_of, marked, dirty}
use Rattle.model.specs.Undamaged.{cover}
use Rattle.model.proofs.Laws.{false≢, bool_cases, all_make, some_make}
use Rattle.judge_laws.specs.Order.{coming, object_covered}
use Rattle.image_laws.specs.Bits.{without_bit}
use Rattle.image_laws.specs.Sized.{Sized}
use Rattle.image_laws.proofs.Bits.{bit_at, zero_bit}
use Rattle.image_laws.proofs.Masks.{one_shl, and_not_pow, without_bit_same, without_bit_less, without_bit_other}
use Rattle.image_laws.proofs.Parts.{all_cong}
use Rattle.image_laws.proofs.Places.{place_in, words_full, few_bits, word_below, by_width}
use Rattle.image_laws.proofs.Trailing.{Lowest, word_lowest}
use Rattle.soundness_laws.specs.Tests.{at_word, wordwise}
use Rattle.soundness_laws.proofs.Checks.{all_pick}
use Rattle.soundness_laws.proofs.Marks.{by_words}
use mathlib.Core.Logic.{◌⊎◌, inl, inr}
use Rattle.image_laws.proofs.Lengths.{sized_width}
use Rattle.judge_laws.proofs.Objects.{object_coming}

-- ---- the marked objects of a word

-- granule j of word i, where bit j of x is set, passes
unfoldable pub left_ok : ℕ → (ℕ → Bool) → ℕ → ℕ → ℕ → Bool
left_ok w p i x j = implies (test_bit x j) (at_word w p i j)

word_card : (w i j : ℕ) → (w ≡ 16) ⊎ (w ≡ 32) → j < w → (w * i + j) / 64 ≡ i / (64 / w)
word_card w i j o = by_width (λ w. j < w → (w * i + j) / 64 ≡ i / (64 / w)) (λ h. omega arith) (λ h. omega arith) o

-- `ok` says whether the objects taken from word i are covered; those left are the bits of x
pub record Taken (w k : ℕ) (l : List ℕ) (i : ℕ) (ok : Bool) (x : ℕ) : Type 0 where
  pub small : x < 2 ^ w
  pub are_marked : (j : ℕ) → j < w → test_bit x j ≡ true → marked (image_of w k l) (w * i + j) ≡ true
  pub so_far : (ok && all w (left_ok w (object_covered (image_of w k l)) i x)) ≡ wordwise w (object_covered (image_of w k l)) i

module _ (w k : ℕ) (l : List ℕ) (z : Sized w k l) (i x : ℕ) where
  pub mark_is : x ≡ nth (image_of w k l).marks i → (j : ℕ) → j < w → test_bit x j ≡ marked (image_of w k l) (w * i + j)
  unfolding marked image_of image
  mark_is e j h = rw (bit_at w (image_of w k l).marks i j h, e)

  -- a dirty card covers all its objects
  pub word_dirty : (d : Bool) → d ≡ dirty (image_of w k l) (i / (64 / w)) → d ≡ true → true ≡ wordwise w (object_covered (image_of w k l)) i
  unfolding wordwise at_word coming
  word_dirty d e h = sym (all_make w _ (λ j q. object_coming (image_of w k l) (w * i + j) (some_make _ 0 (rw (word_card w i j (sized_width z) q) (sym e ∙ h)))))

  pub taken_none : x < 2 ^ w → x ≡ nth (image_of w k l).marks i → Taken w k l i true x
  unfolding left_ok wordwise at_word object_covered implies
  taken_none h e = record {
    small = h;
    are_marked = λ j h q. sym (mark_is e j h) ∙ q;
    so_far = all_cong w _ _ (λ j h. rw (mark_is e j h) (elim (bool_cases (marked (image_of w k l) (w * i + j))) [ inl t ↦ rw t | inr t ↦ rw t ]));
  }

  module _ (ok : Bool) (s : Taken w k l i ok x) where
    pub taken_end : x ≡ 0 → ok ≡ wordwise w (object_covered (image_of w k l)) i
    unfolding left_ok implies
    taken_end e = sym (and-true ok) ∙ (rw (all_make w (left_ok w (object_covered (image_of w k l)) i x) (λ j h. rw (zero_bit x j e))) at s.so_far)

    module _ (nz : x ≡ 0 → ⊥) where
      low : Lowest w x (count_trailing_zeros 64 x)
      low = word_lowest w x (by_width (λ v. v ≤ 64) (omega arith) (omega arith) (sized_width z)) s.small nz

      pub taken_low : count_trailing_zeros 64 x < w
      taken_low = low.within

      pub taken_place : i < 64 * k / w → (w * i + count_trailing_zeros 64 x < 64 * k) × (marked (image_of w k l) (w * i + count_trailing_zeros 64 x) ≡ true)
      taken_place h =
          (rw (words_full w k (sized_width z)) at (place_in w i (count_trailing_zeros 64 x) low.within (64 * k / w) h), s.are_marked _ low.within low.is_set)

      -- x with its lowest bit cleared
      abbrev rest : ℕ
      rest = bit_and x (2 ^ 64 - 1 - 1 * 2 ^ count_trailing_zeros 64 x % 2 ^ 64)

      rest_is : rest ≡ without_bit x (count_trailing_zeros 64 x)
      rest_is =
          let few = few_bits (sized_width z) low.within in
          rw (one_shl 64 (count_trailing_zeros 64 x) few) (and_not_pow 64 x (count_trailing_zeros 64 x) (omega (arith, word_below (sized_width z) s.small)) few)

      pub taken_less : rest < x
      taken_less = rw rest_is (without_bit_less x _ low.is_set)

      taken_one : all w (left_ok w (object_covered (image_of w k l)) i x) ≡ (object_covered (image_of w k l) (w * i + count_trailing_zeros 64 x) && all w (left_ok w (object_covered (image_of w k l)) i (without_bit x (count_trailing_zeros 64 x))))
      unfolding left_ok implies at_word
      taken_one =
          rw low.is_set at (all_pick w (left_ok w (object_covered (image_of w k l)) i x) (left_ok w (object_covered (image_of w k l)) i (without_bit x (count_trailing_zeros 64 x))) (count_trailing_zeros 64 x) low.within
          (λ j ne. rw (without_bit_other x j (count_trailing_zeros 64 x) ne)) (rw (without_bit_same x (count_trailing_zeros 64 x))))

      pub taken_more : (t : Bool) (x' : ℕ) → t ≡ object_covered (image_of w k l) (w * i + count_trailing_zeros 64 x) → x' ≡ rest → Taken w k l i (ok && t) x'
      taken_more t x' et er = let ex = er ∙ rest_is in record {
        small = omega (arith, s.small, taken_less, er);
        are_marked = λ j h q. elim (ℕ_discrete j (count_trailing_zeros 64 x)) [
          | yes e ↦ false≢ (sym (without_bit_same x (count_trailing_zeros 64 x)) ∙ rw (ex, e) at q)
          | no e ↦ s.are_marked j h (sym (without_bit_other x j (count_trailing_zeros 64 x) e) ∙ rw ex at q)
        ];
        so_far = rw (ex, et) (and_assoc ok _ _ ∙ (ap (λ b. ok && b) (sym taken_one) ∙ s.so_far));
      }

-- ---- all words

pub cover_end : (w k : ℕ) (l : List ℕ) (r : Bool) → Sized w k l → r ≡ all (64 * k / w) (wordwise w (object_covered (image_of w k l))) → r ≡ cover (image_of w k l)
unfolding cover object_covered
cover_end w k l r z e = by_words w k l (object_covered (image_of w k l)) r z e
