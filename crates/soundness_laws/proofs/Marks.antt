-- Marks stand only on starts: the granules of a word at a time.
use mathlib.Core.Path.{◌≡◌, refl, sym, ap, ◌∙◌}
use mathlib.Core.Bool.{Bool, true}
use mathlib.Core.List.{List}
use Prim.Native.Nat.{ℕ, zero, suc, ◌+◌, ◌*◌, ◌-◌, ◌/◌, ◌^◌, ◌<◌}
use native.Mathlib.Nat.{mul-zero, mul-suc}
use native.Mathlib.Numerals.{add-one}
use native.Mathlib.Omega.{arith}
use lib.Dec.{eqb}
use lib.Bits.{bit_and, and_le_l}
use borrow.Author.Tests.{eq-eqb, eqb-true}
use Rattle.model.specs.Base.{all, implies, test_bit}
use Rattle.model.specs.Image.{image, image_of, granules, is_start, marked}
use Rattle.model.specs.Undamaged.{mark_ok}
use Rattle.soundness_laws.specs.Sets.{CardBits}
use Rattle.soundness_laws.specs.Tests.{at_word, wordwise}
use Rattle.soundness_laws.proofs.Checks.{all_append}
use Rattle.image_laws.specs.Sized.{Sized}
use Rattle.image_laws.proofs.Parts.{all_cong}
use Rattle.image_laws.proofs.Places.{words_full}
use Rattle.image_laws.proofs.Digits.{digit_two, digit_on, on_digit, bit_none, bit-and, bit_not}
use Rattle.image_laws.proofs.Lengths.{sized_width}
use Rattle.model.proofs.Laws.{same_test, imp_use, imp_make, all_use, all_make}
use Rattle.image_laws.specs.Digits.{bit_of}
use Rattle.image_laws.proofs.Words.{word_ext}
use mathlib.Core.Logic.{inl, inr}
use lib.Pow.{pow_pos}

-- ---- by words

pub next_word : (w i : ℕ) → w * (i + 1) ≡ w * i + w
next_word w i = rw (add-one i) (mul-suc w i)

all_words : (w n : ℕ) (p : ℕ → Bool) → all (w * n) p ≡ all n (wordwise w p)
unfolding all wordwise at_word
all_words w zero p = rw (mul-zero w) refl
all_words w (suc n) p = rw (mul-suc w n, all_append (w * n) w p, all_words w n p)

-- all granules, word by word
pub by_words : (w k : ℕ) (l : List ℕ) (p : ℕ → Bool) (r : Bool) → Sized w k l → r ≡ all (64 * k / w) (wordwise w p) → r ≡ all (granules (image_of w k l)) p
unfolding granules image_of image
by_words w k l p r z e = e ∙ (rw (words_full w k (sized_width z)) at (sym (all_words w (64 * k / w) p)))

-- the same card by card
pub by_cards : (w k : ℕ) (l : List ℕ) (p : ℕ → Bool) (r : Bool) → r ≡ all k (wordwise 64 p) → r ≡ all (granules (image_of w k l)) p
unfolding granules image_of image
by_cards w k l p r e = e ∙ sym (all_words 64 k p)

-- ---- within a word

-- a word of w bits that are all set
pub ones_bit : (w x j : ℕ) → x + 1 ≡ 2 ^ w → j < w → test_bit x j ≡ true
ones_bit w x j e h = on_digit (test_bit x j) (omega (arith, bit_not w 0 x j (omega arith) h, bit_none j))

-- every bit of a is in b
sub_word : (n a b c : ℕ) → a < 2 ^ n → b + c + 1 ≡ 2 ^ n → eqb (bit_and a c) 0 ≡ all n (λ j. implies (test_bit a j) (test_bit b j))
sub_word n a b c ha e =
    same_test _ _
    (λ q. all_make n _ (λ j h. imp_make _ _ (λ t.
    let o : bit_of (bit_and a c) j ≡ bit_of 0 j = ap (λ x. bit_of x j) (eqb-true _ _ q) in
    on_digit (test_bit b j) (omega (arith, bit-and a c j, bit_not n b c j e h, digit_on t, bit_none j)))))
    (λ q. eq-eqb _ _ (word_ext n (bit_and a c) 0 (omega (arith, and_le_l a c)) (pow_pos n) (λ j h. elim (digit_two (test_bit a j)) [
      | inl t ↦ omega (arith, bit-and a c j, bit_none j)
      | inr t ↦ omega (arith, bit-and a c j, bit_not n b c j e h, digit_on (imp_use _ _ (all_use n _ q j h) (on_digit _ t)), bit_none j)
    ])))

-- ---- a card's marks against its starts

pub mark_card : (w k : ℕ) (l : List ℕ) (c x y : ℕ) → CardBits w (image_of w k l).marks c x → CardBits w (image_of w k l).starts c y → x < 2 ^ 64 → y < 2 ^ 64
    → eqb (bit_and x (2 ^ 64 - 1 - y)) 0 ≡ wordwise 64 (mark_ok (image_of w k l)) c
unfolding wordwise at_word mark_ok marked is_start image_of image
mark_card w k l c x y a b hx hy = sub_word 64 x y (2 ^ 64 - 1 - y) hx (omega arith) ∙ all_cong 64 _ _ (λ j q. rw (a.each j q, b.each j q))
