-- Free granules: those of the run chain are all that no object has, and a finish adds what it says.
use mathlib.Core.Path.{◌≡◌, refl, ◌∙◌}
use mathlib.Core.Logic.{inl, inr}
use mathlib.Core.Bool.{Bool, true, false}
use mathlib.Core.List.{List, ◌∷◌, ◌++◌}
use Prim.Native.Nat.{ℕ, zero, suc, ◌+◌, ◌*◌, ◌-◌, ◌≤◌, ◌<◌}
use native.Mathlib.Decide.{ℕ_discrete}
use native.Mathlib.Omega.{arith}
use lib.ListN.{length, drop, get_or, length-append, length-drop}
use Rattle.model.specs.Base.{sum_below}
use Rattle.model.specs.Image.{Image, granules, word, is_start}
use Rattle.model.proofs.Counts.{sum_same}
use Rattle.model.proofs.Laws.{bool_cases}
use Rattle.model.specs.Mutate.{free_from, free_granules}
use Rattle.model.specs.Finish.{run_tail, swept, sweep, finish_with}
use Rattle.theory.specs.Heap.{run_words, Bare, Filled, f_end, f_object, f_run, HeapFilled, HeapSized}
use Rattle.theory.specs.Pieces.{Reads, Pieces, at_end, at_object, at_run, sizes, used_granules}
use Rattle.theory.proofs.heap.Sums.{sum_end}
use Rattle.theory.proofs.heap.Lists.{nth_head, length_run}
use Rattle.theory.proofs.heap.Walk.{word_behind, object-at, no_start_zero}
use Rattle.theory.proofs.finish.Sweep.{sweep_piece, not_kept}
use Rattle.theory.proofs.finish.FinishHeap.{finish_starts, finish_filled, finish_words, finish_sized}
use Rattle.theory.proofs.heap.Pieces.{reads_behind, front, image_pieces}

-- ---- sums

-- past granules that count the same
pub total_same : (v : ℕ → ℕ) (a x y : ℕ) → x ≤ y → ((h : ℕ) → x ≤ h → h < y → v h ≡ a) → sum_below v y + a * x ≡ sum_below v x + a * y
unfolding sum_below
total_same v a x zero l f = let z : x ≡ 0 = omega arith in rw z
total_same v a x (suc y) l f = elim (ℕ_discrete x (suc y)) [
  | yes e ↦ rw e
  | no e ↦ omega (arith, total_same v a x y (omega arith) (λ h p q. f h p (omega arith)), f y (omega arith) (omega arith))
]

module _ (st : ℕ → Bool) (rd : ℕ → ℕ → ℕ) where
  sizes_no : (g : ℕ) → st g ≡ false → sizes st rd g ≡ 0
  sizes_no g e = rw e

  sizes_yes : (g : ℕ) → st g ≡ true → sizes st rd g ≡ rd g 0
  sizes_yes g e = rw e

  -- of a piece only the first granule counts
  total_past : (x s : ℕ) → 1 ≤ s → Bare st x s → sum_below (sizes st rd) (x + s) ≡ sum_below (sizes st rd) x + sizes st rd x
  unfolding sum_below
  total_past x s l ba = omega (arith, total_same (sizes st rd) 0 (suc x) (x + s) (omega arith) (λ h p q. sizes_no h (ba h p q)))

-- ---- the chain has every granule that no object has

pub chain_end : (m : Image) (n : ℕ) → free_from m n 0 ≡ 0
unfolding free_from
chain_end m n = sum_end (λ s. s) m n

-- n runs are enough
chain_count : (m : Image) {x next : ℕ} {b : Bool} (n : ℕ) → Pieces (is_start m) (word m) (granules m) x next b → 1 ≤ x → granules m ≤ x + n
    → free_from m n next + sum_below (sizes (is_start m) (word m)) (granules m) + x ≡ granules m + sum_below (sizes (is_start m) (word m)) x
unfolding free_from
chain_count m n at_end h l = omega (arith, chain_end m n)
chain_count m {x} {next} n (at_object o p) h l =
    let ih = chain_count m n p (omega arith) (omega arith) in
    omega (arith, ih, total_past (is_start m) (word m) x (word m x 0) o.long o.alone, sizes_yes (is_start m) (word m) x o.starts)
chain_count m zero (at_run o p) h l = absurd (omega arith)
chain_count m {x = zero} (suc n) (at_run o p) h l = absurd (omega arith)
chain_count m {x = suc x} (suc n) (at_run o p) h l =
    let ih = chain_count m n p (omega arith) (omega arith) in
    omega (arith, ih, total_past (is_start m) (word m) (suc x) (word m (suc x) 0) o.long o.alone, sizes_no (is_start m) (word m) (suc x) o.no_start)

total_one : (st : ℕ → Bool) (rd : ℕ → ℕ → ℕ) → st 0 ≡ false → sum_below (sizes st rd) 1 ≡ 0
unfolding sum_below
total_one st rd e = rw e

-- every granule but granule 0 is in a run of the chain or in an object
pub free_count : (m : Image) → HeapFilled m → HeapSized m → free_granules m + used_granules m + 1 ≡ granules m
unfolding free_granules used_granules
free_count m o z = omega (arith, chain_count m (granules m) (image_pieces m o z) (omega arith) (omega arith), total_one (is_start m) (word m) (no_start_zero o))

-- ---- "Value: granules freed"

module _ (st keep : ℕ → Bool) (kept : (g : ℕ) → keep g ≡ true → st g ≡ true) (rd : ℕ → ℕ → ℕ) (e : ℕ) where
  abbrev Balance : ℕ → ℕ → Type 0
  Balance g freed = freed + sum_below (sizes keep rd) e + sum_below (sizes st rd) g ≡ sum_below (sizes st rd) e + sum_below (sizes keep rd) g

  bare_kept : (g s : ℕ) → Bare st g s → Bare keep g s
  bare_kept g s ba h p q = not_kept st keep kept h (ba h p q)

  -- what is freed, and what kept objects have, is what all objects have
  freed_count : {g next : ℕ} {run : Bool} {ws : List ℕ} (n : ℕ) → Filled st g ws next run → Reads rd g ws → 4 * g + length ws ≡ 4 * e → length ws < 4 * n
      → Balance g (sweep st keep n g ws).freed
  unfolding swept sweep
  freed_count zero f a q l = absurd (omega arith)
  freed_count {g} (suc n) f_end a q l = let x : e ≡ g = omega arith in rw x (omega arith)
  freed_count {g} (suc n) (f_object s ws rest t o ba f) a q l =
      let j : length (ws ++ rest) ≡ length ws + length rest = length-append ws rest in
      let ih = freed_count {g = g + s} n f (reads_behind st rd e g s (s ∷ ws) rest o.long a) (omega arith) (omega arith) in
      let w : rd g 0 ≡ s = front st rd e g 0 ((s ∷ ws) ++ rest) a ∙ nth_head s (ws ++ rest) in
      let all_past : sum_below (sizes st rd) (g + s) ≡ sum_below (sizes st rd) g + s = omega (arith, total_past st rd g s (omega arith) ba, sizes_yes st rd g t) in
      let kept-past = total_past keep rd g s (omega arith) (bare_kept g s ba) in
      rw (sweep_piece st keep kept n g s ws rest o.long)
      (elim (bool_cases (keep g)) [
        | inl k ↦ rw k (omega (arith, ih, kept-past, sizes_yes keep rd g k))
        | inr k ↦ rw (k, t) (omega (arith, ih, kept-past, sizes_no keep rd g k))
      ])
  freed_count {g} (suc n) (f_run i next rest t ba f) a q l =
      let r : suc (length (run_tail i next)) ≡ 4 * suc i = length_run i next in
      let j : length (run_tail i next ++ rest) ≡ length (run_tail i next) + length rest = length-append (run_tail i next) rest in
      let ih = freed_count {g = g + suc i} n f (reads_behind st rd e g (suc i) (run_words i next) rest r a) (omega arith) (omega arith) in
      let no : keep g ≡ false = not_kept st keep kept g t in
      let all_past = total_past st rd g (suc i) (omega arith) ba in
      let kept-past = total_past keep rd g (suc i) (omega arith) (bare_kept g (suc i) ba) in
      rw (sweep_piece st keep kept n g (suc i) (run_tail i next) rest r, no, t) (omega (arith, ih, all_past, kept-past, sizes_no st rd g t, sizes_no keep rd g no))

module _ (m : Image) (keep : List Bool) (o : HeapFilled m) (z : HeapSized m) (kept : (g : ℕ) → get_or keep g false ≡ true → is_start m g ≡ true) where
  same_granules : granules (finish_with m keep).image ≡ granules m
  unfolding finish_with granules
  same_granules = refl

  used_kept : used_granules (finish_with m keep).image ≡ sum_below (sizes (λ g. get_or keep g false) (word m)) (granules m)
  unfolding used_granules
  used_kept = rw same_granules (sum_same _ _ (granules m) (λ g h. rw (finish_starts m keep o z kept g) (elim (bool_cases (get_or keep g false)) [
    | inl e ↦ rw e (finish_words m keep o z kept g 0 e (omega (arith, (object-at m o g (kept g e)).sized)))
    | inr e ↦ rw e
  ])))

  value_freed : Balance (is_start m) (λ g. get_or keep g false) kept (word m) (granules m) 1 (finish_with m keep).value
  unfolding finish_with
  value_freed =
      let l : length (drop 4 m.heap) ≡ length m.heap - 4 = length-drop 4 m.heap in
      freed_count (is_start m) (λ g. get_or keep g false) kept (word m) (granules m) (granules m) o.heap_filled (word_behind m) (omega arith) (omega arith)

  -- the free granules grow by what a finish says
  pub finish_value : (finish_with m keep).value + free_granules m ≡ free_granules (finish_with m keep).image
  unfolding used_granules
  finish_value =
      omega (
        arith,
        value_freed,
        used_kept,
        same_granules,
        free_count m o z,
        free_count (finish_with m keep).image (finish_filled m keep o z kept) (finish_sized m keep o z kept),
        total_one (is_start m) (word m) (no_start_zero o),
        total_one (λ g. get_or keep g false) (word m) (not_kept (is_start m) (λ g. get_or keep g false) kept 0 (no_start_zero o)),
      )
