-- A sweep: what it leaves fills the heap again, is as long, and has the words of the kept objects.
use mathlib.Core.Path.{◌≡◌, sym, ap, ◌∙◌}
use mathlib.Core.Logic.{inl, inr, ⊎_elim}
use mathlib.Core.Bool.{Bool, true, false}
use mathlib.Core.List.{List, ◌∷◌, ◌++◌}
use Prim.Native.Nat.{ℕ, zero, suc, ◌+◌, ◌*◌, ◌-◌, ◌≤◌, ◌<◌}
use native.Mathlib.Nat.{add-zero, add_assoc}
use native.Mathlib.Decide.{ℕ_discrete, dec_lt}
use native.Mathlib.Omega.{arith}
use lib.ListN.{length, length-append}
use lib.Seq.{take_at, drop_at}
use Rattle.model.specs.Base.{nth}
use Rattle.model.specs.Finish.{run_tail, Swept, swept_words, first_of, swept, sweep}
use Rattle.model.proofs.Laws.{false≢, bool_cases}
use Rattle.theory.specs.Heap.{run_words, Bare, Filled, f_end, f_object, f_run}
use Rattle.theory.specs.Sweep.{Stays, SweptOk}
use Rattle.theory.proofs.heap.Lists.{nth_head, nth_left, nth_right, length_run, nth_behind, head_behind}

-- a run may follow where none ends
pub weaken : {st : ℕ → Bool} {g next : ℕ} {ws : List ℕ} → Filled st g ws next true → Filled st g ws next false
weaken f_end = f_end
weaken (f_object s ws rest e o ba f) = f_object s ws rest e o ba f

-- words of swept pieces, behind the free granules in front
pub nth_swept : (r : Swept) (i : ℕ) → nth (swept_words r) (4 * r.free + i) ≡ nth r.rest i
unfolding swept_words
nth_swept r i = go r.free
  where
    go : (f : ℕ) → nth (elim f [ zero ↦ r.rest | suc n ↦ run_words n r.next ++ r.rest ]) (4 * f + i) ≡ nth r.rest i
    go zero = ap (nth r.rest) (omega arith)
    go (suc n) = nth_right (run_words n r.next) r.rest i (4 * suc n) (length_run n r.next)

pub length_swept : (r : Swept) → length (swept_words r) ≡ 4 * r.free + length r.rest
unfolding swept_words
length_swept r = go r.free
  where
    go : (f : ℕ) → length {A = ℕ} (elim f [ zero ↦ r.rest | suc n ↦ run_words n r.next ++ r.rest ]) ≡ 4 * f + length r.rest
    go zero = omega arith
    go (suc n) = omega (arith, length-append (run_tail n r.next) r.rest, length_run n r.next)

stays_freed : (g s h i x : ℕ) (l t : List ℕ) (r : Swept) → length l ≡ 4 * s → g + s ≤ h → Stays (g + s) t r h i → Stays g (l ++ t) (record { free = s + r.free; rest = r.rest; next = r.next; freed = x }) h i
unfolding Stays
stays_freed g s h i x l t r e p c =
    let j : 4 * (h - (g + (s + r.free))) + i ≡ 4 * (h - (g + s + r.free)) + i = omega arith in
    (omega (arith, c.0), ap (nth r.rest) j ∙ (c.1 ∙ sym (nth_behind g s h i l t e p)))

stays_kept : (g s h i x y : ℕ) (l t : List ℕ) (r : Swept) → length l ≡ 4 * s → g + s ≤ h → Stays (g + s) t r h i → Stays g (l ++ t) (record { free = 0; rest = l ++ swept_words r; next = x; freed = y }) h i
unfolding Stays
stays_kept g s h i x y l t r e p c =
    let j : 4 * (h - (g + 0)) + i ≡ 4 * (h - g) + i = omega arith in
    let j₁ : 4 * (h - (g + s)) + i ≡ 4 * r.free + (4 * (h - (g + s + r.free)) + i) = omega (arith, c.0) in (
      omega arith,
      ap (nth (l ++ swept_words r)) j
          ∙ (nth_behind g s h i l (swept_words r) e p ∙ (ap (nth (swept_words r)) j₁ ∙ (nth_swept r _ ∙ (c.1 ∙ sym (nth_behind g s h i l t e p))))),
    )

stays_here : (g s h i x y : ℕ) (l t : List ℕ) (r : Swept) → length l ≡ 4 * s → h ≡ g → i < 4 * s → Stays g (l ++ t) (record { free = 0; rest = l ++ swept_words r; next = x; freed = y }) h i
unfolding Stays
stays_here g s h i x y l t r e p k =
    let j : 4 * (h - (g + 0)) + i ≡ i = omega arith in
    let j₁ : 4 * (h - g) + i ≡ i = omega arith in
    (omega arith, ap (nth (l ++ swept_words r)) j ∙ (nth_left l (swept_words r) i (omega arith) ∙ sym (ap (nth (l ++ t)) j₁ ∙ nth_left l t i (omega arith))))

module _ (st keep : ℕ → Bool) (kept : (g : ℕ) → keep g ≡ true → st g ≡ true) where
  pub not_kept : (g : ℕ) → st g ≡ false → keep g ≡ false
  not_kept g e = ⊎_elim (λ k. false≢ (sym e ∙ kept g k)) (λ k. k) (bool_cases (keep g))

  -- a sweep takes the piece in front, then the rest
  pub sweep_piece : (n g s : ℕ) (ws rest : List ℕ) → suc (length ws) ≡ 4 * s → sweep st keep (suc n) g ((s ∷ ws) ++ rest) ≡ swept st g s (s ∷ ws) (keep g) (sweep st keep n (g + s) rest)
  unfolding sweep
  sweep_piece n g s ws rest h = rw (take_at (s ∷ ws) rest (4 * s) h, drop_at (s ∷ ws) rest (4 * s) h)

  -- ---- filled again

  pub swept_filled : (g l : ℕ) (r : Swept) → SweptOk keep g l r → Filled keep g (swept_words r) (first_of g r) false
  unfolding swept_words first_of
  swept_filled g l r ok = go r.free ok.behind ok.free_bare
    where
      go : (f : ℕ) → Filled keep (g + f) r.rest r.next true → ((h : ℕ) → g ≤ h → h < g + f → keep h ≡ false)
          → Filled keep g (elim f [ zero ↦ r.rest | suc n ↦ run_words n r.next ++ r.rest ]) (elim f [ zero ↦ r.next | suc n ↦ g ]) false
      go zero b n = weaken (rw add-zero at b)
      go (suc f) b n = f_run f r.next r.rest (n g (omega arith) (omega arith)) (λ h a c. n h (omega arith) c) b

  freed_ok : (g s l : ℕ) (r : Swept) (x : ℕ) → 1 ≤ s → keep g ≡ false → Bare st g s → SweptOk keep (g + s) l r → SweptOk keep g (4 * s + l) (record { free = s + r.free; rest = r.rest; next = r.next; freed = x })
  freed_ok g s l r x h k ba ok = record {
    behind = rw (← add_assoc) ok.behind;
    free_bare = λ i p q. elim (ℕ_discrete i g) [
      | yes e ↦ rw e k
      | no e ↦ elim (dec_lt i (g + s)) [ yes d ↦ not_kept i (ba i (omega arith) d) | no d ↦ ok.free_bare i (omega arith) (omega arith) ]
    ];
    long = omega (arith, ok.long);
  }

  pub sweep_ok : {g next : ℕ} {run : Bool} {ws : List ℕ} (n : ℕ) → Filled st g ws next run → length ws < 4 * n → SweptOk keep g (length ws) (sweep st keep n g ws)
  unfolding swept
  sweep_ok zero f l = absurd (omega arith)
  sweep_ok (suc n) f_end l = unfold sweep in record { behind = f_end; free_bare = λ h p q. absurd (omega arith); long = omega arith }
  sweep_ok {g} (suc n) (f_object s ws rest e o ba f) l =
      let r : Swept = sweep st keep n (g + s) rest in
      let len : 4 * s + length rest ≡ suc (length (ws ++ rest)) = omega (arith, length-append ws rest, o.long) in
      let ok : SweptOk keep (g + s) (length rest) r = sweep_ok {g = g + s} n f (omega (arith, o.long)) in
      rw (sweep_piece n g s ws rest o.long) (elim (bool_cases (keep g)) [
        | inl k ↦ rw (k, swept) (record {
          behind = rw add-zero (f_object s ws _ k o (λ h p q. not_kept h (ba h p q)) (swept_filled (g + s) (length rest) _ ok));
          free_bare = λ h p q. absurd (omega arith);
          long = omega (arith, o.long, length-append ws (swept_words r), length_swept r, ok.long);
        })
        | inr k ↦ rw (k, swept, ← len) (freed_ok g s (length rest) _ _ (omega (arith, o.long)) k ba ok)
      ])
  sweep_ok {g} (suc n) (f_run m next rest e ba f) l =
      let len : 4 * suc m + length rest ≡ suc (length (run_tail m next ++ rest)) = omega (arith, length-append (run_tail m next) rest, length_run m next) in
      rw (sweep_piece n g (suc m) (run_tail m next) rest (length_run m next), not_kept g e, ← len)
      (freed_ok g (suc m) (length rest) _ _ (omega arith) (not_kept g e) ba (sweep_ok {g = g + suc m} n f (omega arith)))

  -- ---- word i of a kept object at h stays

  -- what is kept in a piece starts it
  in_piece : (g s h : ℕ) → Bare st g s → g ≤ h → h < g + s → keep h ≡ true → h ≡ g
  in_piece g s h ba p y k = elim (ℕ_discrete h g) [ yes x ↦ x | no x ↦ false≢ (sym (ba h (omega arith) y) ∙ kept h k) ]

  pub sweep_stays : {g next : ℕ} {run : Bool} {ws : List ℕ} (n : ℕ) → Filled st g ws next run → length ws < 4 * n → (h i : ℕ) → g ≤ h → 4 * h < 4 * g + length ws → keep h ≡ true → i < 4 * nth ws (4 * (h - g))
      → Stays g ws (sweep st keep n g ws) h i
  unfolding swept
  sweep_stays zero f l h i p q k j = absurd (omega arith)
  sweep_stays (suc n) f_end l h i p q k j = absurd (omega arith)
  sweep_stays {g} (suc n) (f_object s ws rest t o ba f) l h i p q k j =
      let la : length (ws ++ rest) ≡ length ws + length rest = length-append ws rest in
      let lo : suc (length ws) ≡ 4 * s = o.long in
      rw (sweep_piece n g s ws rest lo) (elim (dec_lt h (g + s)) [
        | yes y ↦
            let x : h ≡ g = in_piece g s h ba p y k in
            let kg : keep g ≡ true = rw x at k in
            let z : 4 * (h - g) ≡ 0 = omega arith in
            let here : nth ((s ∷ ws) ++ rest) (4 * (h - g)) ≡ s = ap (nth ((s ∷ ws) ++ rest)) z ∙ nth_head s (ws ++ rest) in
            rw (kg, swept) (stays_here g s h i _ _ (s ∷ ws) rest _ lo x (omega arith))
        | no y ↦
            let ih = sweep_stays {g = g + s} n f (omega arith) h i (omega arith) (omega arith) k (omega (arith, head_behind g s h (s ∷ ws) rest lo (omega arith))) in
            elim (bool_cases (keep g)) [
              | inl b ↦ rw (b, swept) (stays_kept g s h i _ _ (s ∷ ws) rest _ lo (omega arith) ih)
              | inr b ↦ rw (b, swept) (stays_freed g s h i _ (s ∷ ws) rest _ lo (omega arith) ih)
            ]
      ])
  sweep_stays {g} (suc n) (f_run m next rest t ba f) l h i p q k j =
      let la : length (run_tail m next ++ rest) ≡ length (run_tail m next) + length rest = length-append (run_tail m next) rest in
      let lr : suc (length (run_tail m next)) ≡ 4 * suc m = length_run m next in
      rw (sweep_piece n g (suc m) (run_tail m next) rest lr, not_kept g t) (elim (dec_lt h (g + suc m)) [
        | yes y ↦ let x : h ≡ g = in_piece g (suc m) h ba p y k in false≢ (sym t ∙ (rw x at (kept h k)))
        | no y ↦
            let ih = sweep_stays {g = g + suc m} n f (omega arith) h i (omega arith) (omega arith) k (omega (arith, head_behind g (suc m) h (run_words m next) rest lr (omega arith))) in
            stays_freed g (suc m) h i _ (run_words m next) rest _ lr (omega arith) ih
      ])
