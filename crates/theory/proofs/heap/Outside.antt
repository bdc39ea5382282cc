-- The free granules are those that are in no object; those in runs of some length are those in maximal stretches of unused granules as long.
use mathlib.Core.Path.{◌≡◌, sym, ap, fun_ext, ◌∙◌}
use mathlib.Core.Logic.{inl, inr}
use mathlib.Core.Bool.{Bool, true, false, cond}
use Prim.Native.Nat.{ℕ, zero, suc, ◌+◌, ◌-◌, ◌≤◌, ◌<◌}
use native.Mathlib.Decide.{dec_lt}
use native.Mathlib.Omega.{arith}
use lib.Dec.{leb, ltb}
use borrow.Author.Tests.{le-leb, ltb-true, lt-ltb, not-true}
use Rattle.model.specs.Base.{every, sum_below, how_many}
use Rattle.model.specs.Image.{Image, granules, word, is_start, size, first_run}
use Rattle.model.specs.Map.{in_object}
use Rattle.model.specs.Mutate.{sum_runs, free_from, free_granules, if_long, granules_in_runs}
use Rattle.model.proofs.Laws.{false≢, bool_cases, not_make, same_test, and_split, and_join, all_use, all_make, any_use, any_make, every_use}
use Rattle.theory.specs.Heap.{HeapFilled, HeapSized}
use Rattle.theory.specs.Pieces.{at_end, at_object, at_run, PiecesIn, RunApart, Unused, InRun, Clear, granules_outside, unused, is_stretch, in_stretch, granules_in_stretches}
use Rattle.theory.proofs.heap.Walk.{object-at}
use Rattle.theory.proofs.heap.Pieces.{image_pieces}
use Rattle.theory.proofs.heap.Free.{total_same}
use Rattle.theory.proofs.heap.Sums.{sum_end}
use Rattle.theory.proofs.heap.Unused.{clear_object, clear_run, run_apart, run_unused, run_here, clear_one, unused_in_run, in_run_zero}

module _ (m : Image) where
  -- ---- which granules are in an object

  pub object_inside : (x y : ℕ) → is_start m x ≡ true → x ≤ y → y < x + size m x → in_object m y ≡ true
  unfolding in_object
  object_inside x y e l q = any_make (suc y) _ x (omega arith) (and_join (is_start m x) (ltb y (x + size m x)) e (lt-ltb _ _ q))

  pub inside_object : (y : ℕ) → in_object m y ≡ true → (x : ℕ) × (is_start m x ≡ true) × (x ≤ y) × (y < x + size m x)
  unfolding in_object
  inside_object y e = let u = any_use (suc y) _ e in let k = and_split (is_start m u.0) _ u.2 in (u.0, k.0, omega (arith, u.1), ltb-true _ _ k.1)

  pub none_inside : (y : ℕ) → ((h : ℕ) → is_start m h ≡ true → h ≤ y → y < h + size m h → ⊥) → in_object m y ≡ false
  none_inside y f = elim (bool_cases (in_object m y)) [ inl e ↦ let u = inside_object y e in absurd (f u.0 u.1 u.2 u.3) | inr e ↦ e ]

  -- ---- the chain, counted

  -- granules that count in runs of at least so many, and not in objects
  module _ (least : ℕ) (v : ℕ → ℕ) (in-object : (x y : ℕ) → is_start m x ≡ true → x ≤ y → y < x + size m x → v y ≡ 0)
      (in_run : (y : ℕ) (r : InRun m y) → v y ≡ cond (leb least (word m r.run 0)) 1 0) where
    run_sum : (x next : ℕ) → RunApart m x → PiecesIn m (x + word m x 0) next true → sum_below v (x + word m x 0) ≡ sum_below v x + if_long least (word m x 0)
    unfolding if_long
    run_sum x next a p =
        let inside : (y : ℕ) → x ≤ y → y < x + word m x 0 → v y ≡ cond (leb least (word m x 0)) 1 0 = λ y l q. in_run y (run_here m x y a p l q) in
        elim (bool_cases (leb least (word m x 0))) [
          | inl e ↦ rw e (omega (arith, total_same v 1 x (x + word m x 0) (omega arith) (rw e at inside)))
          | inr e ↦ rw e (omega (arith, total_same v 0 x (x + word m x 0) (omega arith) (rw e at inside)))
        ]

    chain_sum : {x next : ℕ} {b : Bool} (n : ℕ) → PiecesIn m x next b → 1 ≤ x → Clear m x → granules m ≤ x + n → sum_below v (granules m) ≡ sum_runs (if_long least) m n next + sum_below v x
    unfolding sum_runs size
    chain_sum n at_end h c l = omega (arith, sum_end (if_long least) m n)
    chain_sum {x} n (at_object o p) h c l =
        let ih = chain_sum n p (omega arith) (clear_object m x o c) (omega arith) in
        omega (arith, ih, total_same v 0 x (x + word m x 0) (omega arith) (λ y. in-object x y o.starts))
    chain_sum zero (at_run o p) h c l = absurd (omega arith)
    chain_sum {x = zero} (suc n) (at_run o p) h c l = absurd (omega arith)
    chain_sum {x = suc x} (suc n) (at_run o p) h c l =
        omega (arith, chain_sum n p (omega arith) (clear_run m (suc x) o c) (omega arith), run_sum (suc x) _ (run_apart m (suc x) h o c) p)

    -- all of them, but granule 0
    granules_sum : HeapFilled m → HeapSized m → sum_below v (granules m) ≡ granules_in_runs least m + v 0
    unfolding granules_in_runs sum_below
    granules_sum o z = omega (arith, chain_sum (granules m) (image_pieces m o z) (omega arith) (clear_one m o) (omega arith))

  -- ---- all runs

  pub all_runs : granules_in_runs 0 m ≡ free_granules m
  unfolding granules_in_runs if_long free_granules free_from
  all_runs = ap (λ v. sum_runs v m (granules m) (first_run m)) (fun_ext (λ n. ap (λ b. cond b n 0) (le-leb 0 n (omega arith))))

  -- the chain has just the granules that are in no object, but granule 0
  pub free_outside : HeapFilled m → HeapSized m → free_granules m + 1 ≡ granules_outside m
  unfolding granules_outside
  free_outside o z =
      let none : in_object m 0 ≡ false = none_inside 0 (λ h e l q. omega (arith, (o.start_range h e).0)) in
      let all = granules_sum 0 (λ y. cond (in_object m y) 0 1)
      (λ x y e l q. rw (object_inside x y e l q))
      (λ y r. rw (none_inside y (run_unused m r.run y r.run_apart r.inside.0 r.inside.1).in_no_object, le-leb 0 (word m r.run 0) (omega arith))) o z in
      omega (arith, all, all_runs, rw none at all)

  -- ---- unused granules and their stretches

  unused_is : (y : ℕ) → Unused m y → unused m y ≡ true
  unfolding unused every
  unused_is y u = rw (lt-ltb 0 y (omega (arith, u.in_range)), lt-ltb y (granules m) u.in_range.1, none_inside y u.in_no_object)

  is-unused : (y : ℕ) → unused m y ≡ true → Unused m y
  unfolding unused
  is-unused y e = record {
    in_range = (omega (arith, ltb-true 0 y (every_use _ e 0)), ltb-true y (granules m) (every_use _ e 1));
    in_no_object = λ h s l q. false≢ (sym (not-true _ (every_use _ e 2)) ∙ object_inside h y s l q);
  }

  in_run_unused : (y g : ℕ) (r : InRun m y) → r.run ≤ g → g < r.run + word m r.run 0 → unused m g ≡ true
  in_run_unused y g r l q = unused_is g (run_unused m r.run g r.run_apart l q)

  -- n unused granules from x on lie in the stretch of l from a on, if they have a granule of it and it ends on both sides
  within : (x n a l y : ℕ) → ((g : ℕ) → x ≤ g → g < x + n → unused m g ≡ true) → unused m (a - 1) ≡ false → unused m (a + l) ≡ false
      → x ≤ y → y < x + n → a ≤ y → y < a + l → (a ≤ x) × (x + n ≤ a + l)
  within x n a l y f below behind h₁ h₂ h₃ h₄ = (
    elim (dec_lt x a) [ yes q ↦ false≢ (sym below ∙ f (a - 1) (omega arith) (omega arith)) | no q ↦ omega arith ],
    elim (dec_lt (a + l) (x + n)) [ yes q ↦ false≢ (sym behind ∙ f (a + l) (omega arith) q) | no q ↦ omega arith ],
  )

  -- every granule of a maximal stretch is unused
  stretch_all : (x n g : ℕ) → is_stretch m x n ≡ true → x ≤ g → g < x + n → unused m g ≡ true
  unfolding is_stretch
  stretch_all x n g s l q =
      let e : x + (g - x) ≡ g = omega arith in
      rw e at (all_use n (λ i. unused m (x + i)) (every_use _ s 0) (g - x) (omega arith))

  stretch_of : (least y : ℕ) → in_stretch least m y ≡ true → (x n : ℕ) × (leb least n ≡ true) × (x ≤ y) × (y < x + n) × (is_stretch m x n ≡ true)
  unfolding in_stretch
  stretch_of least y e =
      let x = any_use (suc y) _ e in
      let n = any_use (granules m) _ x.2 in
      (x.0, n.0, every_use _ n.2 0, omega (arith, x.1), ltb-true _ _ (every_use _ n.2 1), every_use _ n.2 2)

  stretch_unused : (least y : ℕ) → in_stretch least m y ≡ true → Unused m y
  stretch_unused least y e = let (x, n, long, l, q, s) = stretch_of least y e in is-unused y (stretch_all x n y s l q)

  module _ (o : HeapFilled m) (z : HeapSized m) where
    -- below a run stands an object, or granule 0
    below_run : (y : ℕ) (r : InRun m y) → unused m (r.run - 1) ≡ false
    below_run y r = not-true _ (not_make _ (λ e.
        let k = unused_in_run m o z (r.run - 1) (is-unused _ e) in
        elim (dec_lt r.run (k.run + word m k.run 0)) [
          | yes q ↦ elim (in_run_zero m r.run 0 (record { run = k.run; run_apart = k.run_apart; inside = (omega (arith, k.inside), q); joined = k.joined }) (omega arith)) [
            | inl w ↦ omega (arith, w.0, k.inside, r.run_apart.not_nil)
            | inr w ↦ omega (arith, w, r.run_apart.is_run.long)
          ]
          | no q ↦
              let same : k.run + word m k.run 0 ≡ r.run = omega (arith, k.inside, r.run_apart.not_nil) in
              elim k.joined [
                | inl w ↦ omega (arith, w, r.run_apart.is_run.long, r.run_apart.is_run.ends)
                | inr w ↦ false≢ (sym r.run_apart.is_run.no_start ∙ (rw same at w))
              ]
        ]))

    -- behind it too, or the heap ends
    behind_it : (y : ℕ) (r : InRun m y) → unused m (r.run + word m r.run 0) ≡ false
    behind_it y r =
        let e : ℕ = r.run + word m r.run 0 in
        not-true (unused m e) (not_make (unused m e) (λ t.
        let u : Unused m e = is-unused e t in
        elim r.joined [ inl w ↦ omega (arith, w, u.in_range) | inr w ↦ u.in_no_object e w (omega arith) (omega (arith, (object-at m o e w).sized)) ]))

    -- so a maximal stretch with a granule of the run is the run
    stretch_is : (y x n : ℕ) (r : InRun m y) → x ≤ y → y < x + n → is_stretch m x n ≡ true → (r.run ≡ x) × (word m r.run 0 ≡ n)
    unfolding is_stretch
    stretch_is y x n r l q s =
        let inner = within x n r.run (word m r.run 0) y (λ g. stretch_all x n g s) (below_run y r) (behind_it y r) l q r.inside.0 r.inside.1 in
        let outer = within r.run (word m r.run 0) x n y (λ g. in_run_unused y g r) (not-true _ (every_use _ s 1)) (not-true _ (every_use _ s 2)) r.inside.0 r.inside.1 l q in
        (omega (arith, inner, outer), omega (arith, inner, outer))

    run_stretch : (y : ℕ) (r : InRun m y) → is_stretch m r.run (word m r.run 0) ≡ true
    unfolding is_stretch every
    run_stretch y r = rw (all_make (word m r.run 0) (λ i. unused m (r.run + i)) (λ i h. in_run_unused y (r.run + i) r (omega arith) (omega arith)), below_run y r, behind_it y r)

    -- runs are the maximal stretches of unused granules
    pub apart_stretch : (r : ℕ) → RunApart m r → is_stretch m r (word m r 0) ≡ true
    apart_stretch r a =
        let k = unused_in_run m o z r (run_unused m r r a (omega arith) (omega (arith, a.is_run.long))) in
        let e : r ≡ k.run = elim (in_run_zero m r 0 k (omega arith)) [ inl w ↦ w.0 | inr w ↦ absurd (omega (arith, w, a.is_run.long)) ] in
        rw (← e) at (run_stretch r k)

    pub stretch_apart : (x n : ℕ) → 1 ≤ n → is_stretch m x n ≡ true → RunApart m x × (word m x 0 ≡ n)
    stretch_apart x n h s =
        let k = unused_in_run m o z x (is-unused x (stretch_all x n x s (omega arith) (omega arith))) in
        let e = stretch_is x x n k (omega arith) (omega arith) s in
        (rw e.0 at k.run_apart, rw e.0 at e.1)

    stretch_in_run : (least y : ℕ) (r : InRun m y) → in_stretch least m y ≡ leb least (word m r.run 0)
    unfolding in_stretch every
    stretch_in_run least y r = same_test _ _
        (λ e. let (x, n, long, l, q, s) = stretch_of least y e in rw (← (stretch_is y x n r l q s).1) at long)
        (λ e. any_make (suc y) _ r.run (omega (arith, r.inside))
        (any_make (granules m) _ (word m r.run 0) (omega (arith, r.run_apart.not_nil, r.run_apart.is_run.ends))
        (rw (e, lt-ltb y _ r.inside.1, run_stretch y r))))

    -- the chain's runs of at least so many granules have just the granules that lie in a maximal stretch of at least as many unused ones
    pub stretches_counted : (least : ℕ) → granules_in_runs least m ≡ granules_in_stretches least m
    unfolding granules_in_stretches how_many
    stretches_counted least =
        let none : (y : ℕ) → (Unused m y → ⊥) → in_stretch least m y ≡ false = λ y f. not-true _ (not_make _ (λ e. f (stretch_unused least y e))) in
        let zero-no : in_stretch least m 0 ≡ false = none 0 (λ u. omega (arith, u.in_range)) in
        let all = granules_sum least (λ y. cond (in_stretch least m y) 1 0)
        (λ x y e l q. rw (none y (λ u. u.in_no_object x e l q)))
        (λ y r. rw (stretch_in_run least y r)) o z in
        omega (arith, rw zero-no at all)
