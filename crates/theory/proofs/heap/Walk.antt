-- The walk over the heap, as a test and by derivations; every start begins an object, and objects lie apart.
use mathlib.Core.Path.{◌≡◌, refl, sym, ap, subst, ◌∙◌}
use mathlib.Core.Bool.{Bool, true, false, not, cond}
use mathlib.Core.Logic.{inl, inr}
use mathlib.Core.List.{List, [], ◌∷◌, ◌++◌}
use Prim.Native.Nat.{ℕ, zero, suc, ◌+◌, ◌*◌, ◌-◌, ◌≤◌, ◌<◌}
use native.Mathlib.Decide.{dec_lt}
use native.Mathlib.Omega.{arith}
use lib.ListN.{length, drop, length-append, length-drop}
use lib.Seq.{drop_at}
use borrow.Author.Tests.{leb-true, eqb-true, le-leb, eq-eqb, not-true}
use Rattle.model.specs.Base.{nth}
use Rattle.model.specs.Image.{Image, granules, word, is_start, marked, size, links}
use Rattle.model.specs.Undamaged.{bare, piece, fill, filled}
use Rattle.model.specs.Finish.{run_tail}
use Rattle.model.proofs.Laws.{bool_cases, every_use, every_cons, every_nil, all_use, all_make, false≢, not_make}
use Rattle.theory.specs.Heap.{ObjectPiece, run_words, Bare, Filled, f_end, f_object, f_run, HeapFilled, ObjectAt, Laid}
use Rattle.theory.proofs.heap.Pieces.{run_filled, object_filled, start_beside, pieces_of, object_in}
pub use Rattle.theory.proofs.heap.Pieces.{word_behind}
use Rattle.theory.proofs.heap.Lists.{nth_left, length_run, run_zero}

-- ---- what the test says

bare_use : (st : ℕ → Bool) (g s : ℕ) → bare st g s ≡ true → Bare st g s
unfolding bare
bare_use st g s e h p q =
    let k : g + 1 + (h - g - 1) ≡ h = omega arith in
    subst (λ x. st x ≡ false) k (not-true _ (all_use (s - 1) _ e (h - g - 1) (omega arith)))

bare_make : (st : ℕ → Bool) (g s : ℕ) → Bare st g s → bare st g s ≡ true
unfolding bare
bare_make st g s f = all_make (s - 1) _ (λ i h. ap not (f (g + 1 + i) (omega arith) (omega arith)))

-- ---- the test and the derivations are the same

pub fill_use : (st : ℕ → Bool) (n g : ℕ) (ws : List ℕ) (next : ℕ) (run : Bool) → fill st n g ws next run ≡ true → Filled st g ws next run
unfolding fill
fill_use st zero g ws next b e = false≢ e
fill_use st (suc n) g [] next b e = subst (λ x. Filled st g [] x b) (sym (eqb-true _ _ e)) f_end
fill_use st (suc n) g (s ∷ ws) next b e = elim (bool_cases (piece st g s ws next b (st g))) [
  | inl h ↦ go (st g) refl h (fill_use st n _ _ _ _ (rw (h, fill) at e))
  | inr h ↦ false≢ (rw (h, fill) at e)
]
  where
    go : (k : Bool) → st g ≡ k → piece st g s ws next b k ≡ true → Filled st (g + s) (drop (4 * s) (s ∷ ws)) (cond k next (nth ws 0)) (not k) → Filled st g (s ∷ ws) next b
    go true q h f = unfold piece in object_filled st g s ws next b q (leb-true _ _ (every_use _ h 0)) (leb-true _ _ (every_use _ h 1)) (bare_use st g s (every_use _ h 2))
        (leb-true _ _ (every_use _ h 3)) (leb-true _ _ (every_use _ h 4)) f
    go false q h f = unfold piece in run_filled st g s ws next b (every_use _ h 3) (eqb-true _ _ (every_use _ h 4)) (leb-true _ _ (every_use _ h 0)) (leb-true _ _ (every_use _ h 1)) q
        (bare_use st g s (every_use _ h 2)) (λ i l. eqb-true _ _ (all_use (4 * s - 2) _ (every_use _ h 5) i l)) f

object-ok : (st : ℕ → Bool) (g s : ℕ) (ws rest : List ℕ) (next : ℕ) (b : Bool) → ObjectPiece s ws → Bare st g s → piece st g s (ws ++ rest) next b true ≡ true
unfolding piece
object-ok st g s ws rest next b o ba =
    every_cons _ _ (le-leb 1 s (omega arith))
    (every_cons _ _ (le-leb (4 * s) _ (omega (arith, length-append ws rest)))
    (every_cons _ _ (bare_make st g s ba)
    (every_cons _ _ (le-leb _ _ o.few)
    (every_cons _ _ (le-leb _ (4 * s - 2) (rw (nth_left ws rest 0 (omega arith)) o.links_fit)) every_nil))))

run-ok : (st : ℕ → Bool) (g n : ℕ) (rest : List ℕ) (next : ℕ) → Bare st g (suc n) → piece st g (suc n) (run_tail n next ++ rest) g false false ≡ true
unfolding piece
run-ok st g n rest next ba =
    every_cons _ _ (le-leb 1 (suc n) (omega arith))
    (every_cons _ _ (le-leb (4 * suc n) _ (omega (arith, length_run n next, length-append (run_tail n next) rest)))
    (every_cons _ _ (bare_make st g (suc n) ba)
    (every_cons _ _ refl
    (every_cons _ _ (eq-eqb g g refl)
    (every_cons _ _ (all_make (4 * suc n - 2) _ (λ i h. eq-eqb _ _ (run_zero n next rest i h))) every_nil)))))

run_head : (n next : ℕ) (rest : List ℕ) → nth (run_tail n next ++ rest) 0 ≡ next
unfolding nth run_tail
run_head n next rest = refl

fill_piece : (st : ℕ → Bool) (n g s : ℕ) (ws : List ℕ) (next : ℕ) (b k : Bool) → st g ≡ k → piece st g s ws next b k ≡ true
    → fill st n (g + s) (drop (4 * s) (s ∷ ws)) (cond k next (nth ws 0)) (not k) ≡ true → fill st (suc n) g (s ∷ ws) next b ≡ true
unfolding fill
fill_piece st n g s ws next b k q h f = rw (ap (piece st g s ws next b) q ∙ h, fill) (rw q f)

pub fill_make : {st : ℕ → Bool} {g : ℕ} {ws : List ℕ} {next : ℕ} {run : Bool} (n : ℕ) → Filled st g ws next run → length ws < 4 * n → fill st n g ws next run ≡ true
fill_make zero f l = absurd (omega arith)
fill_make (suc n) f_end l = unfold fill in refl
fill_make {st} {g} {next = next} {run = b} (suc n) (f_object s ws rest q o ba f) l =
    fill_piece st n g s (ws ++ rest) next b true q (object-ok st g s ws rest next b o ba)
    (rw (drop_at (s ∷ ws) rest (4 * s) o.long) (fill_make {g = g + s} n f (omega (arith, length-append ws rest))))
fill_make {st} {g} (suc n) (f_run m next rest q ba f) l =
    fill_piece st n g (suc m) (run_tail m next ++ rest) g false false q (run-ok st g m rest next ba)
    (rw (drop_at (run_words m next) rest (4 * suc m) (length_run m next), run_head m next rest) (fill_make {g = g + suc m} n f (omega (arith, length-append (run_tail m next) rest, length_run m next))))

-- ---- of an image

-- the line `filled` of "undamaged"
pub filled_make : (m : Image) → 1 ≤ granules m → HeapFilled m → filled m ≡ true
unfolding filled
filled_make m h o = fill_make (granules m) o.heap_filled (omega (arith, length-drop 4 m.heap, o.heap_words))

pub object-at : (m : Image) → HeapFilled m → (g : ℕ) → is_start m g ≡ true → ObjectAt m g
unfolding size links
object-at m o g e =
    let range : (1 ≤ g) × (g < granules m) = o.start_range g e in
    let ps = pieces_of (is_start m) (word m) (granules m) o.heap_filled (word_behind m) (omega (arith, length-drop 4 m.heap)) in
    let a = object_in (is_start m) (word m) (granules m) ps g range.0 range.1 e in
    record { sized = a.long; links-in = a.links_fit; in_heap = a.ends; none_inside = a.alone }

pub no_start_zero : {m : Image} → HeapFilled m → is_start m 0 ≡ false
no_start_zero {m} o = not-true _ (not_make (is_start m 0) (λ e. omega (arith, (o.start_range 0 e).0)))

pub laid : (m : Image) → HeapFilled m → ((g : ℕ) → marked m g ≡ true → is_start m g ≡ true) → Laid m
laid m o marks = record {
  apart = λ g h e e₁ l. elim (start_beside (is_start m) g (size m g) (object-at m o g e).none_inside h e₁) [ inl y ↦ absurd (omega arith) | inr y ↦ y ];
  inside = λ g e. let a = object-at m o g e in (a.links-in, a.in_heap);
  heap_length = o.heap_words;
  marks_start = marks;
}

-- two words of objects are one only if object and place are
pub same_place : (m : Image) → Laid m → (g h i j : ℕ) → is_start m g ≡ true → is_start m h ≡ true → i < 4 * size m g → j < 4 * size m h → 4 * g + i ≡ 4 * h + j → (g ≡ h) × (i ≡ j)
same_place m d g h i j sg sh li lj e = elim (dec_lt g h) [
  | yes lt ↦ absurd (omega (arith, d.apart g h sg sh lt))
  | no x ↦ elim (dec_lt h g) [ yes lt ↦ absurd (omega (arith, d.apart h g sh sg lt)) | no y ↦ (omega arith, omega arith) ]
]
