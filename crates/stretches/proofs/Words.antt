-- Stretches of a slice of words, by the numbers that they are.
use Rattle.std.proofs.Common.{◌≡◌, ◌∙◌, Bool, List, [], ◌++◌, map, ℕ, arith, ◌+◌, ◌*◌, ◌-◌, ◌≤◌, ◌<◌, length, get_or, set, take, drop, replicate}
use Rattle.std.proofs.lemmas.List.{map-append, take-map}
use Rattle.std.specs.List.{drop-map}
use borrow.Author.Fill.{fill_more}
use borrow.Rule.Slice.PartMut.{mid_of, put_mid}
use Rattle.model.specs.Base.{nth, put, zeroes, zeros}
use Rattle.model.specs.Image.{lengths, place, split, image, image_of, with_heap}
use Rattle.image_laws.specs.Clearing.{zeroed}
use Rattle.image_laws.specs.Sized.{Sized}
use Rattle.image_laws.proofs.Clearing.{zero_whole, zero_heap}
use Rattle.image_laws.proofs.Compare.{part_words}
use Rattle.image_laws.proofs.Parts.{section_zero}
use Rattle.image.proofs.Words.{word_read, word_written, words_part}

module _ {A : Type 0} {value : A → ℕ} {words : List A → List ℕ} (by_value : (l : List A) → words l ≡ map value l) where
  -- the number that is read
  pub read : (l : List A) (i x : ℕ) (r : A) → i < length l → r ≡ get_or l i r → x ≡ value r → x ≡ nth (words l) i
  read l i x r h e v = v ∙ word_read by_value l i r h e

  -- one zero more
  pub cleared_more : (l o : List A) (i : ℕ) (v : A) → words l ≡ replicate i 0 ++ drop i (words o) → i < length (words o) → value v ≡ 0 → words (set l i v) ≡ replicate (i + 1) 0 ++ drop (i + 1) (words o)
  unfolding put
  cleared_more l o i v e h z = word_written by_value l i v ∙ rw (z, e) (fill_more i 0 (words o) h)

  -- a part that was lent on
  pub words_put : (a n : ℕ) (l v : List A) → words (put_mid a n l v) ≡ put_mid a n (words l) (words v)
  words_put a n l v = rw (by_value l, by_value v, by_value (put_mid a n l v)) (simp (map-append, drop-map, take-map))

  module _ (w k : ℕ) (l : List A) (s o e : ℕ) where
    -- words o to e - 1 are section s
    pub section_zero_words : (r : Bool) → place (lengths w k) s ≡ o → o + get_or (lengths w k) s 0 ≡ e → r ≡ zeroes (words (take (e - o) (drop o l))) → r ≡ zeroes (get_or (split (lengths w k) (words l)) s [])
    section_zero_words r p q h = section_zero w k (words l) r s o e p q (rw (words_part by_value l o (e - o)) at h)

    -- they are n words of it from word i on
    pub part_of : (i n : ℕ) → i + n ≤ get_or (lengths w k) s 0 → place (lengths w k) s + i ≡ o → o + n ≡ e → words (take (e - o) (drop o l)) ≡ take n (drop i (get_or (split (lengths w k) (words l)) s []))
    part_of i n h p q = words_part by_value l o (e - o) ∙ part_words w k (words l) s i n o e h p q

    -- they came back zero
    pub section_cleared : place (lengths w k) s ≡ o → o + get_or (lengths w k) s 0 ≡ e → place (lengths w k) s + get_or (lengths w k) s 0 ≤ length (words l) → (v : List A) → words v ≡ replicate (length (words (mid_of o (e - o) l))) 0 → image_of w k (words (put_mid o (e - o) l v)) ≡ image w k (set (split (lengths w k) (words l)) s (zeros (get_or (split (lengths w k) (words l)) s [])))
    section_cleared p q long v z =
        rw (words_put o (e - o) l v) (zero_whole w k (words l) s o e (omega arith) q long (words v) (rw (words_part by_value l o (e - o)) at z))

  -- words a to e - 1 of the heap
  pub heap_cleared : (w k : ℕ) (l v : List A) → Sized w k (words l) → (a e : ℕ) → a ≤ e → e ≤ 256 * k → words v ≡ replicate (length (words (mid_of a (e - a) l))) 0 → image_of w k (words (put_mid a (e - a) l v)) ≡ with_heap (image_of w k (words l)) (zeroed a e (image_of w k (words l)).heap)
  heap_cleared w k l v sized a e h b z = rw (words_put a (e - a) l v) (zero_heap w k (words l) (words v) sized a e h b (rw (words_part by_value l a (e - a)) at z))
