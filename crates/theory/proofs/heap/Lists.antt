-- Words of joined lists, and of the pieces of a heap whose words are joined.
use mathlib.Core.Path.{◌≡◌, refl, ap, ap₂, ◌∙◌}
use mathlib.Core.List.{List, [], ◌∷◌, ◌++◌}
use Prim.Native.Nat.{ℕ, zero, suc, ◌+◌, ◌*◌, ◌-◌, ◌≤◌, ◌<◌, suc-le-suc}
use native.Mathlib.Nat.{add-zero}
use native.Mathlib.Omega.{arith}
use lib.ListN.{length, take, replicate, length-replicate, get_or-append}
use lib.Seq.{get_or-append-add}
use Rattle.model.specs.Base.{nth}
use Rattle.model.specs.Finish.{run_tail}
use Rattle.model.proofs.Laws.{nth_replicate}
use Rattle.theory.specs.Heap.{run_words}

pub nth_head : (x : ℕ) (l : List ℕ) → nth (x ∷ l) 0 ≡ x
unfolding nth
nth_head x l = refl

pub nth_left : (l r : List ℕ) (i : ℕ) → i < length l → nth (l ++ r) i ≡ nth l i
unfolding nth
nth_left l r i h = get_or-append l r 0 i h

pub nth_right : (l r : List ℕ) (i n : ℕ) → length l ≡ n → nth (l ++ r) (n + i) ≡ nth r i
unfolding nth
nth_right l r i n e = rw (← e) (get_or-append-add l r i 0)

pub zeros_take : (n : ℕ) (l : List ℕ) → n ≤ length l → ((i : ℕ) → i < n → nth l i ≡ 0) → take n l ≡ replicate n 0
unfolding nth
zeros_take zero l h f = refl
zeros_take (suc n) [] h f = absurd (omega arith)
zeros_take (suc n) (x ∷ l) h f = ap₂ ◌∷◌ (f 0 (omega arith)) (zeros_take n l (omega arith) (λ i k. f (suc i) (suc-le-suc k)))

-- ---- the words of a run

pub length_run : (n next : ℕ) → suc (length (run_tail n next)) ≡ 4 * suc n
unfolding run_tail
length_run n next = omega (arith, length-replicate {A = ℕ} (4 * suc n - 2) 0)

pub run_next : (n next : ℕ) (rest : List ℕ) → nth (run_words n next ++ rest) 1 ≡ next
unfolding nth run_tail
run_next n next rest = refl

pub run_zero : (n next : ℕ) (rest : List ℕ) (i : ℕ) → i < 4 * suc n - 2 → nth (run_tail n next ++ rest) (suc i) ≡ 0
unfolding run_tail nth
run_zero n next rest i h = nth_left (replicate (4 * suc n - 2) 0) rest i (rw length-replicate h) ∙ nth_replicate (4 * suc n - 2) i

-- ---- word i from granule h on, in the words from granule g on: behind a piece of s granules

pub nth_behind : (g s h i : ℕ) (l r : List ℕ) → length l ≡ 4 * s → g + s ≤ h → nth (l ++ r) (4 * (h - g) + i) ≡ nth r (4 * (h - (g + s)) + i)
nth_behind g s h i l r e p = let j : 4 * (h - g) + i ≡ 4 * s + (4 * (h - (g + s)) + i) = omega arith in ap (nth (l ++ r)) j ∙ nth_right l r _ (4 * s) e

pub head_behind : (g s h : ℕ) (l r : List ℕ) → length l ≡ 4 * s → g + s ≤ h → nth (l ++ r) (4 * (h - g)) ≡ nth r (4 * (h - (g + s)))
head_behind g s h l r e u = simp add-zero at (nth_behind g s h 0 l r e u)
