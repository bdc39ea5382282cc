-- Every object is marked: then no link leads to an unmarked one.
use mathlib.Core.Path.{◌≡◌, sym, ◌∙◌}
use mathlib.Core.Bool.{Bool, true, false}
use mathlib.Core.List.{List}
use Prim.Native.Nat.{ℕ, ◌*◌, ◌/◌, ◌<◌}
use native.Mathlib.Decide.{ℕ_discrete, dec_lt}
use native.Mathlib.Omega.{arith}
use borrow.Author.Tests.{eq-eqb, ne_eqb, eqb-true}
use Rattle.model.specs.Base.{nth, all, bit}
use Rattle.model.specs.Image.{Image, image, image_of, is_start, marked, link}
use Rattle.model.specs.Undamaged.{covered, cover}
use Rattle.model.proofs.Laws.{false≢, all_use, all_make, imp_make, some_make}
use Rattle.image_laws.specs.Sized.{Sized}
use Rattle.image_laws.proofs.Bits.{start_past}
use Rattle.image_laws.proofs.Lengths.{sized_width}
use Rattle.image_laws.proofs.Places.{word_in}
use Rattle.judge_laws.specs.Order.{Coverable}
use Rattle.judge_laws.specs.Links.{same_word}

module _ (m : Image) (i a b : ℕ) (ea : a ≡ nth m.starts i) (eb : b ≡ nth m.marks i) where
  pub same_yes : a ≡ b → true ≡ same_word m i
  unfolding same_word
  same_yes e = rw (← ea, ← eb, eq-eqb a b e)

  pub same_no : (a ≡ b → ⊥) → same_word m i ≡ false
  unfolding same_word
  same_no e = rw (← ea, ← eb) (ne_eqb a b e)

module _ (w k : ℕ) (l : List ℕ) (z : Sized w k l) (r : Bool) (e : r ≡ all (64 * k / w) (same_word (image_of w k l))) (h : r ≡ true) where
  words_same : (i : ℕ) → i < 64 * k / w → nth (image_of w k l).starts i ≡ nth (image_of w k l).marks i
  unfolding same_word
  words_same i q = eqb-true _ _ (all_use (64 * k / w) (same_word (image_of w k l)) (sym e ∙ h) i q)

  start_marked : (a : ℕ) → is_start (image_of w k l) a ≡ true → marked (image_of w k l) a ≡ true
  unfolding is_start marked bit image_of image
  start_marked a s = elim (dec_lt a (64 * k)) [
    | yes q ↦ rw (words_same (a / w) (word_in w k (sized_width z) a q)) at s
    | no q ↦ false≢ (sym (start_past w k l z a (omega arith)) ∙ s)
  ]

  pub marked_covered : Coverable k (image_of w k l) → true ≡ cover (image_of w k l)
  unfolding cover covered
  marked_covered c = sym (all_make _ _ (λ g p. imp_make _ _ (λ q. all_make _ _ (λ i b. elim (ℕ_discrete (link (image_of w k l) g i) 0) [
    | yes o ↦ some_make _ 0 (eq-eqb _ _ o)
    | no n ↦ some_make _ 1 (start_marked _ (c.to_starts g q i b n))
  ]))))
