-- What lies between kept objects becomes a run, in words.
use mathlib.Core.Path.{◌≡◌, refl, sym, ap, ◌∙◌}
use mathlib.Core.List.{List, [], ◌∷◌, ◌++◌, append_assoc}
use Prim.Native.Nat.{ℕ, zero, suc, ◌+◌, ◌*◌, ◌-◌, ◌<◌, ◌≤◌}
use native.Mathlib.Omega.{arith}
use lib.ListN.{length, set, take, drop, replicate, length-append, length-drop}
use lib.Seq.{take-add, take_at, drop_at, drop-append-le, length-take-le, set-set}
use borrow.Author.Tests.{lt-ltb, le-ltb}
use Rattle.model.specs.Base.{put}
use Rattle.model.specs.Image.{Image, first_run, with_heap, with_general, set_first_run, set_word}
use Rattle.model.specs.Finish.{run_tail, Swept, swept_words, first_of}
use Rattle.model.proofs.Laws.{nth_put_same}
use Rattle.theory.specs.Heap.{run_words}
use Rattle.finish_laws.specs.Gaps.{head_at, run_from, gap}
use Rattle.image_laws.specs.Clearing.{zeroed}

-- ---- the words of a run: its first granule, and the rest cleared

set_four : (p l : List ℕ) (x y : ℕ) → 4 ≤ length l → set (set (set (set (p ++ l) (length p) x) (suc (length p)) y) (suc (suc (length p))) 0) (suc (suc (suc (length p)))) 0 ≡ p ++ (x ∷ y ∷ 0 ∷ 0 ∷ drop 4 l)
set_four [] [] x y h = absurd (omega arith)
set_four [] (a ∷ []) x y h = absurd (omega arith)
set_four [] (a ∷ b ∷ []) x y h = absurd (omega arith)
set_four [] (a ∷ b ∷ c ∷ []) x y h = absurd (omega arith)
set_four [] (a ∷ b ∷ c ∷ d ∷ l) x y h = refl
set_four (a ∷ p) l x y h = ap (λ (l : List ℕ). a ∷ l) (set_four p l x y h)

-- the words of the granule from word i on
unfoldable head_put : ℕ → ℕ → ℕ → List ℕ → List ℕ
head_put i x y l = put (put (put (put l (i + 0) x) (i + 1) y) (i + 2) 0) (i + 3) 0

head_words : (p l : List ℕ) (i x y : ℕ) → length p ≡ i → 4 ≤ length l → head_put i x y (p ++ l) ≡ p ++ (x ∷ y ∷ 0 ∷ 0 ∷ drop 4 l)
unfolding head_put put
head_words p l i x y e h =
    let z : i + 0 ≡ length p = omega arith in
    let a : i + 1 ≡ suc (length p) = omega arith in
    let b : i + 2 ≡ suc (suc (length p)) = omega arith in
    let c : i + 3 ≡ suc (suc (suc (length p))) = omega arith in
    rw (z, a, b, c) (set_four p l x y h)

cleared : (p l r : List ℕ) (a e : ℕ) → length p ≡ a → a + length l ≡ e → zeroed a e (p ++ (l ++ r)) ≡ p ++ (replicate (length l) 0 ++ r)
unfolding zeroed
cleared p l r a e ep el =
    let q : e - a ≡ length l = omega arith in
    let d : drop e (p ++ (l ++ r)) ≡ r = ap (drop e) (sym (append_assoc p l r)) ∙ drop_at (p ++ l) r e (length-append p l ∙ omega arith) in
    rw (take_at p (l ++ r) a ep, q, d)

module _ (H R : List ℕ) (a n : ℕ) (hl : 4 * (a + suc n) ≤ length H) where
  run-words : (next : ℕ) → zeroed (4 * a + 4) (4 * (a + suc n)) (head_put (4 * a) (suc n) next (take (4 * (a + suc n)) H ++ R)) ≡ take (4 * a) H ++ (run_words n next ++ R)
  unfolding run_tail
  run-words next =
      let p : List ℕ = take (4 * a) H in
      let l : List ℕ = take (4 * suc n) (drop (4 * a) H) in
      let h : List ℕ = suc n ∷ next ∷ 0 ∷ 0 ∷ [] in
      let lp : length p ≡ 4 * a = length-take-le _ H (omega arith) in
      let ll : length l ≡ 4 * suc n = length-take-le _ (drop (4 * a) H) (omega (arith, length-drop (4 * a) H)) in
      let ld : length (drop 4 l) ≡ 4 * suc n - 4 = omega (arith, length-drop 4 l) in
      let q : 4 * (a + suc n) ≡ 4 * a + 4 * suc n = omega arith in
      let parted : take (4 * (a + suc n)) H ++ R ≡ p ++ (l ++ R) = rw (q, take-add (4 * a) (4 * suc n) H) (append_assoc p l R) in
      let zeros : suc (suc (length (drop 4 l))) ≡ 4 * suc n - 2 = omega arith in
      ap (λ (l : List ℕ). zeroed (4 * a + 4) (4 * (a + suc n)) (head_put (4 * a) (suc n) next l)) parted
      ∙ ap (zeroed (4 * a + 4) (4 * (a + suc n)))
      (head_words p (l ++ R) (4 * a) (suc n) next lp (omega (arith, length-append l R))
      ∙ ap (λ (t : List ℕ). p ++ (suc n ∷ next ∷ 0 ∷ 0 ∷ t)) (drop-append-le 4 l R (omega arith)) ∙ sym (append_assoc p h (drop 4 l ++ R)))
      ∙ cleared (p ++ h) (drop 4 l) R (4 * a + 4) (4 * (a + suc n)) (length-append p h ∙ omega arith) (omega arith)
      ∙ append_assoc p h (replicate (length (drop 4 l)) 0 ++ R)
      ∙ ap (λ (i : ℕ). p ++ (suc n ∷ next ∷ (replicate {A = ℕ} i 0 ++ R))) zeros

-- ---- a gap in an image, of which only the heap and the first run change

-- the image with other heap words and another first run
unfoldable pub with_sweep : Image → List ℕ → ℕ → Image
with_sweep m hs f = set_first_run (with_heap m hs) f

run_with_sweep : (m : Image) (hs : List ℕ) (f a e : ℕ) → 1 < length m.general → run_from (with_sweep m hs f) a e ≡ with_sweep m (zeroed (4 * a + 4) (4 * e) (head_put (4 * a) (e - a) f hs)) a
unfolding run_from head_at head_put set_word with_sweep set_first_run with_heap with_general first_run put
run_with_sweep m hs f a e h = rw (nth_put_same m.general 1 f h, set-set)

pub gap_zero : (m : Image) (a e : ℕ) → e ≤ a → gap m a e ≡ m
unfolding gap
gap_zero m a e h = rw (le-ltb a e h)

pub gap_suc : (m : Image) (a e : ℕ) → a < e → gap m a e ≡ run_from m a e
unfolding gap
gap_suc m a e h = rw (lt-ltb a e h)

module _ (m : Image) (H : List ℕ) (hg : 1 < length m.general) where
  -- the image with the heap from granule g on swept
  abbrev pub from : ℕ → Swept → Image
  from g r = with_sweep m (take (4 * (g + r.free)) H ++ r.rest) r.next

  pub gap_done : (a : ℕ) (r : Swept) → 4 * (a + r.free) ≤ length H → gap (from a r) a (a + r.free) ≡ with_sweep m (take (4 * a) H ++ swept_words r) (first_of a r)
  unfolding swept_words first_of
  gap_done a r hl = go r.free refl
    where
      go : (f : ℕ) → r.free ≡ f → gap (from a r) a (a + r.free) ≡ with_sweep m (take (4 * a) H ++ swept_words r) (first_of a r)
      go zero e =
          let q : 4 * (a + r.free) ≡ 4 * a = omega arith in
          gap_zero (from a r) a (a + r.free) (omega arith) ∙ rw (q, e, swept_words, first_of)
      go (suc n) e =
          let k : 4 * (a + suc n) ≤ length H = rw e at hl in
          let q : a + suc n - a ≡ suc n = omega arith in
          gap_suc (from a r) a (a + r.free) (omega arith)
          ∙ run_with_sweep m (take (4 * (a + r.free)) H ++ r.rest) r.next a (a + r.free) hg
          ∙ rw (e, swept_words, first_of, q, run-words H r.rest a n k r.next)
