-- A slice of words, read and written, by the numbers that they are: word by word, and in the sections of an image.
use Rattle.std.proofs.Common.{◌≡◌, ◌∙◌, sym, ap, List, [], ◌∷◌, map, ℕ, zero, suc, arith, ◌+◌, ◌<◌, length, get_or, set, take, drop}
use Rattle.std.proofs.lemmas.List.{get_or-map, map-set, length-map, take-map}
use Rattle.std.specs.List.{drop-map}
use Rattle.model.specs.Base.{nth, put}
use Rattle.model.specs.Image.{lengths, place, split, image, image_of, total}
use Rattle.image_laws.specs.Sized.{Sized}
use Rattle.image_laws.proofs.Sections.{get_section, put_section}

place_in : (ns : List ℕ) (s i : ℕ) → i < get_or ns s 0 → place ns s + i < total ns
place_in [] s i h = absurd (omega arith)
place_in (n ∷ ns) zero i h = omega arith
place_in (n ∷ ns) (suc s) i h = omega (arith, place_in ns s i h)

module _ {A : Type 0} {value : A → ℕ} {words : List A → List ℕ} (by_value : (l : List A) → words l ≡ map value l) (l : List A) where
  pub word_read : (i : ℕ) (r : A) → i < length l → r ≡ get_or l i r → value r ≡ nth (words l) i
  unfolding nth
  word_read i r h e = rw (by_value l, get_or-map value l i r 0 h) (ap value e)

  pub word_written : (i : ℕ) (v : A) → words (set l i v) ≡ put (words l) i (value v)
  unfolding put
  word_written i v = rw (by_value l, by_value (set l i v)) (map-set value l i v)

  pub words_length : length (words l) ≡ length l
  words_length = rw (by_value l) (length-map l value)

  pub words_part : (a n : ℕ) → words (take n (drop a l)) ≡ take n (drop a (words l))
  words_part a n = rw (by_value l, by_value (take n (drop a l)), drop-map value a l) (sym (take-map value n (drop a l)))

  pub same_length : (m : List A) → length m ≡ length l → length (words m) ≡ length (words l)
  same_length m e = rw (by_value l, by_value m, length-map l value, length-map m value) e

  pub slice_length : (m : List A) → length (words m) ≡ length (words l) → length m ≡ length l
  slice_length m e = rw (by_value l, by_value m, length-map l value, length-map m value) at e

  -- word i of section s, which is word o
  module _ (w k s i o : ℕ) (h : i < get_or (lengths w k) s 0) (at_place : place (lengths w k) s + i ≡ o) where
    pub section_read : Sized w k (words l) → (r : A) → r ≡ get_or l o r → value r ≡ nth (get_or (split (lengths w k) (words l)) s []) i
    section_read z r e =
        word_read o r (omega (arith, place_in (lengths w k) s i h, z.long, words_length, at_place)) e ∙ get_section w k (words l) s i o h at_place

    pub section_written : (v : A) → image_of w k (words (set l o v)) ≡ image w k (set (split (lengths w k) (words l)) s (put (get_or (split (lengths w k) (words l)) s []) i (value v)))
    section_written v = rw (word_written o v) (put_section w k (words l) s i o h at_place (value v))
