-- Pieces read by granule are those of the filled heap.
use mathlib.Core.Path.{◌≡◌, refl, sym, ap, subst, ◌∙◌}
use mathlib.Core.Logic.{◌⊎◌, inl, inr}
use mathlib.Core.Bool.{Bool, true, false, not}
use mathlib.Core.List.{List, [], ◌∷◌, ◌++◌}
use Prim.Native.Nat.{ℕ, zero, suc, ◌+◌, ◌*◌, ◌-◌, ◌≤◌, ◌<◌}
use native.Mathlib.Decide.{dec_lt}
use native.Mathlib.Omega.{arith}
use lib.ListN.{length, take, drop, take-append-drop, length-append, length-drop}
use lib.Seq.{length-take-le}
use Rattle.model.specs.Base.{nth}
use Rattle.model.specs.Image.{Image, granules, word, is_start, first_run}
use Rattle.model.specs.Finish.{run_tail}
use Rattle.model.proofs.Laws.{false≢}
use Rattle.model.proofs.Entries.{nth_drop, nth_take}
use Rattle.theory.specs.Heap.{run_words, Bare, Filled, f_end, f_object, f_run, HeapFilled, HeapSized}
use Rattle.theory.specs.Pieces.{Reads, ObjectHere, Pieces, at_end, at_object, at_run}
use Rattle.theory.proofs.heap.Lists.{nth_head, nth_left, zeros_take, length_run, run_next, run_zero, nth_behind}

-- ---- a piece in front

run-words : (n : ℕ) (ws : List ℕ) → 4 * suc n ≤ suc (length ws) → ((i : ℕ) → i < 4 * suc n - 2 → nth ws (suc i) ≡ 0) → ws ≡ run_tail n (nth ws 0) ++ drop (4 * suc n - 1) ws
unfolding run_tail nth
run-words n [] h z = absurd (omega arith)
run-words n (x ∷ ws) h z =
    let k : 4 * suc n - 1 ≡ suc (4 * suc n - 2) = omega arith in
    rw k (ap (λ l. x ∷ l) (sym (take-append-drop (4 * suc n - 2) ws) ∙ rw (zeros_take (4 * suc n - 2) ws (omega arith) z)))

-- a run of s granules in front, by its words
pub run_filled : (st : ℕ → Bool) (g s : ℕ) (ws : List ℕ) (next : ℕ) (b : Bool) → not b ≡ true → g ≡ next → 1 ≤ s → 4 * s ≤ suc (length ws) → st g ≡ false → Bare st g s
    → ((i : ℕ) → i < 4 * s - 2 → nth ws (suc i) ≡ 0) → Filled st (g + s) (drop (4 * s) (s ∷ ws)) (nth ws 0) true → Filled st g (s ∷ ws) next b
run_filled st g zero ws next b nb e h₁ h₂ q ba z f = absurd (omega arith)
run_filled st g (suc n) ws next true nb e h₁ h₂ q ba z f = false≢ nb
run_filled st g (suc n) ws next false nb e h₁ h₂ q ba z f =
    let k : 4 * suc n ≡ suc (4 * suc n - 1) = omega arith in
    subst (λ x. Filled st g (suc n ∷ ws) x false) e
    (subst (λ l. Filled st g (suc n ∷ l) g false) (sym (run-words n ws h₂ z))
    (f_run n (nth ws 0) (drop (4 * suc n - 1) ws) q ba (rw k at f)))

-- an object of s granules in front, by its words
pub object_filled : (st : ℕ → Bool) (g s : ℕ) (ws : List ℕ) (next : ℕ) (b : Bool) → st g ≡ true → 1 ≤ s → 4 * s ≤ suc (length ws) → Bare st g s → s ≤ 1024 → nth ws 0 ≤ 4 * s - 2
    → Filled st (g + s) (drop (4 * s) (s ∷ ws)) next false → Filled st g (s ∷ ws) next b
object_filled st g s ws next b q h₁ h₂ ba few fit f =
    let len : length (take (4 * s - 1) ws) ≡ 4 * s - 1 = length-take-le (4 * s - 1) ws (omega arith) in
    let k : 4 * s ≡ suc (4 * s - 1) = omega arith in
    subst (λ l. Filled st g (s ∷ l) next b) (take-append-drop (4 * s - 1) ws)
    (f_object s (take (4 * s - 1) ws) (drop (4 * s - 1) ws) q
    (record { long = omega arith; few = few; links_fit = rw (nth_take (4 * s - 1) ws 0 (omega arith)) fit }) ba
    (rw k at f))

-- ---- pieces by granule

-- a start is none of a piece's granules but the first
pub start_beside : (st : ℕ → Bool) (g s : ℕ) → Bare st g s → (h : ℕ) → st h ≡ true → (h ≤ g) ⊎ (g + s ≤ h)
start_beside st g s ba h e = elim (dec_lt g h) [
  | yes p ↦ elim (dec_lt h (g + s)) [ yes q ↦ false≢ (sym (ba h p q) ∙ e) | no q ↦ inr (omega arith) ]
  | no p ↦ inl (omega arith)
]

module _ (st : ℕ → Bool) (rd : ℕ → ℕ → ℕ) (e : ℕ) where
  pub reads_behind : (g s : ℕ) (l r : List ℕ) → length l ≡ 4 * s → Reads rd g (l ++ r) → Reads rd (g + s) r
  reads_behind g s l r q a h i p = sym (nth_behind g s h i l r q p) ∙ a h i (omega arith)

  -- word i of the piece in front
  pub front : (g i : ℕ) (ws : List ℕ) → Reads rd g ws → rd g i ≡ nth ws i
  front g i ws a = let z : 4 * (g - g) + i ≡ i = omega arith in sym (a g i (omega arith)) ∙ ap (nth ws) z

  second : (x : ℕ) (l : List ℕ) (i : ℕ) → nth (x ∷ l) (suc i) ≡ nth l i
  unfolding nth
  second x l i = refl

  pub pieces_of : {g next : ℕ} {b : Bool} {ws : List ℕ} → Filled st g ws next b → Reads rd g ws → 4 * g + length ws ≡ 4 * e → Pieces st rd e g next b
  pieces_of {g} {b = b} f_end a q = let x : e ≡ g = omega arith in subst (λ y. Pieces st rd e y 0 b) x at_end
  pieces_of {g} {next} {b} (f_object s ws rest t o ba f) a q =
      let w : rd g 0 ≡ s = front g 0 ((s ∷ ws) ++ rest) a ∙ nth_head s (ws ++ rest) in
      let w₁ : rd g 1 ≡ nth ws 0 = front g 1 ((s ∷ ws) ++ rest) a ∙ (second s (ws ++ rest) 0 ∙ nth_left ws rest 0 (omega arith)) in
      at_object (record { starts = t; long = omega arith; few = omega arith; links_fit = omega arith; ends = omega (arith, length-append ws rest); alone = rw w ba })
      (subst (λ x. Pieces st rd e (g + x) next false) (sym w) (pieces_of f (reads_behind g s (s ∷ ws) rest o.long a) (omega (arith, length-append ws rest))))
  pieces_of {g} (f_run n next rest t ba f) a q =
      let w : rd g 0 ≡ suc n = front g 0 (run_words n next ++ rest) a ∙ nth_head (suc n) _ in
      let w₁ : rd g 1 ≡ next = front g 1 (run_words n next ++ rest) a ∙ run_next n next rest in
      let r : suc (length (run_tail n next)) ≡ 4 * suc n = length_run n next in
      at_run (record {
        no_start = t;
        long = omega arith;
        ends = omega (arith, length-append (run_tail n next) rest);
        alone = rw w ba;
        zero_words = λ i l.
            let z : 2 + i ≡ suc (suc i) = omega arith in
            rw z (front g (suc (suc i)) (run_words n next ++ rest) a ∙ (second (suc n) (run_tail n next ++ rest) (suc i) ∙ run_zero n next rest i (omega arith)));
      })
      (rw (w, w₁) (pieces_of f (reads_behind g (suc n) (run_words n next) rest r a) (omega (arith, length-append (run_tail n next) rest))))

  reads_drop : (g s : ℕ) (ws : List ℕ) → Reads rd g ws → Reads rd (g + s) (drop (4 * s) ws)
  reads_drop g s ws a h i p = let z : 4 * s + (4 * (h - (g + s)) + i) ≡ 4 * (h - g) + i = omega arith in nth_drop (4 * s) ws _ ∙ (ap (nth ws) z ∙ a h i (omega arith))

  pub filled_of : {g next : ℕ} {b : Bool} → Pieces st rd e g next b → (ws : List ℕ) → Reads rd g ws → 4 * g + length ws ≡ 4 * e → Filled st g ws next b
  filled_of at_end [] a q = f_end
  filled_of at_end (x ∷ ws) a q = absurd (omega arith)
  filled_of (at_object o p) [] a q = absurd (omega arith)
  filled_of {g} {next} {b} (at_object o p) (x ∷ ws) a q =
      let w : rd g 0 ≡ x = front g 0 (x ∷ ws) a ∙ nth_head x ws in
      let w₁ : rd g 1 ≡ nth ws 0 = front g 1 (x ∷ ws) a ∙ second x ws 0 in
      object_filled st g x ws next b o.starts (omega arith) (omega arith) (rw w at o.alone) (omega arith) (omega arith)
      (rw w at (filled_of p (drop (4 * rd g 0) (x ∷ ws)) (reads_drop g (rd g 0) (x ∷ ws) a) (omega (arith, length-drop (4 * rd g 0) (x ∷ ws)))))
  filled_of (at_run o p) [] a q = absurd (omega arith)
  filled_of {g} (at_run o p) (x ∷ ws) a q =
      let w : rd g 0 ≡ x = front g 0 (x ∷ ws) a ∙ nth_head x ws in
      let w₁ : rd g 1 ≡ nth ws 0 = front g 1 (x ∷ ws) a ∙ second x ws 0 in
      run_filled st g x ws g false refl refl (omega arith) (omega arith) o.no_start (rw w at o.alone)
      (λ i l. let z : 2 + i ≡ suc (suc i) = omega arith in sym (second x ws (suc i)) ∙ (sym (front g (suc (suc i)) (x ∷ ws) a) ∙ (ap (rd g) (sym z) ∙ o.zero_words i (omega arith))))
      (rw (w, w₁) at (filled_of p (drop (4 * rd g 0) (x ∷ ws)) (reads_drop g (rd g 0) (x ∷ ws) a) (omega (arith, length-drop (4 * rd g 0) (x ∷ ws)))))

  -- every start begins an object
  pub object_in : {g next : ℕ} {b : Bool} → Pieces st rd e g next b → (h : ℕ) → g ≤ h → h < e → st h ≡ true → ObjectHere st rd e h
  object_in at_end h l q s = absurd (omega arith)
  object_in {g} (at_object o p) h l q s = elim (start_beside st g (rd g 0) o.alone h s) [
    | inl y ↦ let z : h ≡ g = omega arith in rw z o
    | inr y ↦ object_in p h y q s
  ]
  object_in {g} (at_run o p) h l q s = elim (start_beside st g (rd g 0) o.alone h s) [
    | inl y ↦ let z : h ≡ g = omega arith in false≢ (sym o.no_start ∙ (rw z at s))
    | inr y ↦ object_in p h y q s
  ]

  -- behind a run stands an object, or nothing
  pub behind_run : {g next : ℕ} → Pieces st rd e g next true → (g ≡ e) ⊎ ObjectHere st rd e g
  behind_run at_end = inl refl
  behind_run (at_object o p) = inr o

  pub loosen : {g next : ℕ} → Pieces st rd e g next true → Pieces st rd e g next false
  loosen at_end = at_end
  loosen (at_object o p) = at_object o p

-- ---- of an image

-- word i of granule h, in the words behind granule 0
pub word_behind : (m : Image) (h i : ℕ) → 1 ≤ h → nth (drop 4 m.heap) (4 * (h - 1) + i) ≡ word m h i
unfolding word
word_behind m h i p = let z : 4 + (4 * (h - 1) + i) ≡ 4 * h + i = omega arith in nth_drop 4 m.heap (4 * (h - 1) + i) ∙ ap (nth m.heap) z

pub image_pieces : (m : Image) → HeapFilled m → HeapSized m → Pieces (is_start m) (word m) (granules m) 1 (first_run m) false
image_pieces m o z = pieces_of (is_start m) (word m) (granules m) o.heap_filled (word_behind m) (omega (arith, length-drop 4 m.heap))

pub pieces_image : (m : Image) → HeapSized m → length m.heap ≡ 4 * granules m → Pieces (is_start m) (word m) (granules m) 1 (first_run m) false
    → ((g : ℕ) → is_start m g ≡ true → (1 ≤ g) × (g < granules m)) → HeapFilled m
pieces_image m z l p range = record {
  heap_words = l;
  heap_filled = filled_of (is_start m) (word m) (granules m) p (drop 4 m.heap) (word_behind m) (omega (arith, length-drop 4 m.heap));
  start_range = range;
}
