-- An image is its words, and words of fitting length are an image: both round trips.
use mathlib.Core.Path.{◌≡◌, refl, sym, ap, subst, ◌∙◌}
use mathlib.Core.Logic.{◌⊎◌, inl, inr}
use mathlib.Core.Bool.{true}
use mathlib.Core.List.{List, [], ◌∷◌, ◌++◌, map}
use Prim.Native.Nat.{ℕ, zero, suc, ◌+◌, ◌*◌, ◌-◌, ◌≤◌, ◌<◌}
use native.Mathlib.Nat.{add_assoc, zero-add, suc-add}
use native.Mathlib.Decide.{ℕ_discrete}
use native.Mathlib.Omega.{arith}
use lib.ListN.{length, get_or, drop, replicate, length-replicate, length-drop, length-append, take-append-drop}
use lib.Seq.{set-append_left, map-set_same, take_at, drop_at, length-take-le}
use borrow.Author.Tests.{eqb-true, eq-eqb, ne_eqb, leb-true, le-leb}
use Rattle.model.specs.Base.{put}
use Rattle.model.specs.Image.{Image, heap_at, general_at, lengths, total, place, image_length, most_cards, cards_of, fits, split, join, sections, image, image_of, parts, words, set_section, with_heap, with_general, set_word, set_first_run}
use Rattle.model.specs.Undamaged.{fresh_store}
use Rattle.model.proofs.Laws.{every_use, every_cons, every_nil, length_put}

-- ---- lists cut and joined

pub split_join : (ls : List (List ℕ)) → split (map length ls) (join ls) ≡ ls
unfolding split join
split_join [] = refl
split_join (l ∷ ls) = rw (take_at l (join ls) (length l) refl, drop_at l (join ls) (length l) refl) (ap (λ r. l ∷ r) (split_join ls))

pub join_split : (ns ws : List ℕ) → length ws ≡ total ns → join (split ns ws) ≡ ws
unfolding split join
join_split [] [] e = refl
join_split [] (w ∷ ws) e = absurd (omega arith)
join_split (n ∷ ns) ws e = rw (join_split ns (drop n ws) (rw (length-drop n ws) (omega arith))) (take-append-drop n ws)

pub split_lengths : (ns ws : List ℕ) → length ws ≡ total ns → map length (split ns ws) ≡ ns
unfolding split
split_lengths [] ws e = refl
split_lengths (n ∷ ns) ws e = λ i. (length-take-le n ws (omega arith) i ∷ split_lengths ns (drop n ws) (omega (arith, length-drop n ws)) i)

pub length_join : (ls : List (List ℕ)) → length (join ls) ≡ total (map length ls)
unfolding join
length_join [] = refl
length_join (l ∷ ls) = omega (arith, length-append l (join ls), length_join ls)

-- ---- widths and lengths

-- a store has words of 16 or 32 bits
pub width_cases : (w k : ℕ) → 1 ≤ k → k ≤ most_cards w → (w ≡ 16) ⊎ (w ≡ 32)
width_cases w k l h =
    elim (ℕ_discrete w 16) [
      | yes e ↦ inl e
      | no a ↦ elim (ℕ_discrete w 32) [ yes e ↦ inr e | no b ↦ let z = rw (ne_eqb w 16 a, ne_eqb w 32 b) at h in absurd (omega arith) ]
    ]

-- the number of cards comes back from the length
pub cards_length : (w k : ℕ) → (w ≡ 16) ⊎ (w ≡ 32) → cards_of w (image_length w k) ≡ k
unfolding cards_of
cards_length w k (inl e) = rw e (omega arith)
cards_length w k (inr e) = rw e (omega arith)

-- document 02, (ii): "an image is then 266 × k + 1384 words", with words of 16 bits
pub length_sixteen : (k : ℕ) → image_length 16 k ≡ 266 * k + 1384
length_sixteen k = omega arith

-- ---- the round trips

-- the sections have their lengths, and the number of cards is one that there is at this width
pub record Fits (m : Image) : Type 0 where
  pub some_card : 1 ≤ m.k
  pub few_cards : m.k ≤ most_cards m.width
  pub section_lengths : map length (sections m) ≡ lengths m.width m.k

-- words of fitting length are an image that fits
pub parts_fit : (w : ℕ) (ws : List ℕ) → fits w (length ws) ≡ true → Fits (parts w ws)
unfolding parts image_of image sections split fits
parts_fit w ws e = record {
  some_card = leb-true _ _ (every_use _ e 0);
  few_cards = leb-true _ _ (every_use _ e 1);
  section_lengths = split_lengths (lengths w (cards_of w (length ws))) ws (eqb-true _ _ (every_use _ e 2));
}

pub length_words : (m : Image) → Fits m → length (words m) ≡ image_length m.width m.k
unfolding words
length_words m f = length_join (sections m) ∙ ap total f.section_lengths

pub words_fit : (m : Image) → Fits m → fits m.width (length (words m)) ≡ true
unfolding fits
words_fit m f =
    let c : cards_of m.width (length (words m)) ≡ m.k = ap (cards_of m.width) (length_words m f) ∙ cards_length m.width m.k (width_cases _ _ f.some_card f.few_cards) in
    every_cons _ _ (rw c (le-leb _ _ f.some_card)) (every_cons _ _ (rw c (le-leb _ _ f.few_cards)) (every_cons _ _ (rw c (eq-eqb _ _ (length_words m f))) every_nil))

pub parts_words : (m : Image) → Fits m → parts m.width (words m) ≡ m
unfolding parts image_of words image sections
parts_words m f =
    rw (length_words m f, cards_length m.width m.k (width_cases _ _ f.some_card f.few_cards), ← f.section_lengths) (ap (image m.width m.k) (split_join (sections m)))

pub words_parts : (w : ℕ) (ws : List ℕ) → fits w (length ws) ≡ true → words (parts w ws) ≡ ws
unfolding parts image_of words image sections fits split
words_parts w ws e = join_split (lengths w (cards_of w (length ws))) ws (eqb-true _ _ (every_use _ e 2))

-- ---- a word written in a section is that word written at its place

put_past : (l r : List ℕ) (i v : ℕ) → put (l ++ r) (length l + i) v ≡ l ++ put r i v
unfolding put
put_past [] r i v = rw (zero-add i)
put_past (x ∷ l) r i v = rw (suc-add (length l) i) (ap (λ y. x ∷ y) (put_past l r i v))

pub join_put : (ls : List (List ℕ)) (s i v : ℕ) → i < length (get_or ls s []) → join (set_section ls s (put (get_or ls s []) i v)) ≡ put (join ls) (place (map length ls) s + i) v
unfolding join set_section put
join_put [] s i v h = absurd (omega arith)
join_put (l ∷ ls) zero i v h = rw (zero-add i) (sym (set-append_left l (join ls) i v h))
join_put (l ∷ ls) (suc s) i v h =
    ap (λ r. l ++ r) (join_put ls s i v h) ∙ rw (add_assoc (length l) (place (map length ls) s) i) (sym (put_past l (join ls) (place (map length ls) s + i) v))

put_lengths : (ls : List (List ℕ)) (s i v : ℕ) → map length (set_section ls s (put (get_or ls s []) i v)) ≡ map length ls
unfolding set_section
put_lengths ls s i v = map-set_same length ls s _ [] (length_put (get_or ls s []) i v)

-- the words of a fresh store: zeros but for two
pub fresh_words : (w k : ℕ) → 1 ≤ k → fresh_store w k ≡ put (put (replicate (image_length w k) 0) 4 (64 * k - 1)) (place (lengths w k) general_at + 1) 1
unfolding fresh_store words sections set_first_run set_word with_general with_heap image_of image split set_section
fresh_words w k h =
    let zeros : List (List ℕ) = split (lengths w k) (replicate (image_length w k) 0) in
    let with-run : List (List ℕ) = set_section zeros heap_at (put (get_or zeros heap_at []) 4 (64 * k - 1)) in
    let zero-lengths : map length zeros ≡ lengths w k = split_lengths (lengths w k) (replicate (image_length w k) 0) (length-replicate _ 0) in
    let run-lengths : map length with-run ≡ lengths w k = put_lengths zeros heap_at 4 (64 * k - 1) ∙ zero-lengths in
    let heap-put = join_put zeros heap_at 4 (64 * k - 1) (subst (λ ns. 4 < get_or ns heap_at 0) (sym zero-lengths) (omega arith)) in
    join_put with-run general_at 1 1 (subst (λ ns. 1 < get_or ns general_at 0) (sym run-lengths) (omega arith))
    ∙ cc (run-lengths, heap-put, join_split (lengths w k) (replicate (image_length w k) 0) (length-replicate _ 0))
