-- A section of an image as a slice of its words.
use Rattle.std.proofs.Common.{◌≡◌, ◌∙◌, sym, List, [], map, ℕ, ◌+◌, ◌*◌, ◌-◌, ◌/◌, ◌⊎◌, arith, length, get_or, take, drop}
use Rattle.model.specs.Image.{lengths, place, split}
use Rattle.image.proofs.Words.{words_length, words_part}
use Rattle.image_laws.proofs.Split.{split_is}
use Rattle.soundness_laws.proofs.Joined.{cards_full}

module _ {A : Type 0} {value : A → ℕ} {words : List A → List ℕ} (by_value : (l : List A) → words l ≡ map value l) (l : List A) where
  -- words a to e - 1 are section s
  pub section_slice : (w k s a e : ℕ) → a ≡ place (lengths w k) s → e ≡ a + get_or (lengths w k) s 0 → words (take (e - a) (drop a l)) ≡ get_or (split (lengths w k) (words l)) s []
  section_slice w k s a e p q =
      let n : e - a ≡ get_or (lengths w k) s 0 = omega arith in
      words_part by_value l a (e - a) ∙ rw (n, p) (sym (split_is (lengths w k) (words l) s))

  -- as many words as k cards have bits
  pub cards_slice : (w k n : ℕ) → (w ≡ 16) ⊎ (w ≡ 32) → n ≡ 64 / w → length (words l) ≡ 64 * k / w → length l ≡ n * k
  cards_slice w k n o e q = sym (words_length by_value l) ∙ q ∙ sym (cards_full w o n e k)
