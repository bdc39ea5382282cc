-- The pieces of the heap, objects and runs, by index.
use mathlib.Core.Path.{◌≡◌, refl, sym, ap, ◌∙◌}
use mathlib.Core.Bool.{Bool, true, false, not, ◌&&◌, and_assoc, and_comm}
use mathlib.Core.List.{List, ◌∷◌}
use Prim.Native.Nat.{ℕ, suc, ◌+◌, ◌*◌, ◌-◌, ◌≤◌, ◌<◌}
use native.Mathlib.Omega.{arith}
use lib.Dec.{eqb, leb}
use lib.ListN.{length, take, drop, length-drop}
use lib.Seq.{drop-cons}
use borrow.Author.Tests.{leb-true, le-leb}
use Rattle.model.specs.Base.{nth, all, every, zeroes}
use Rattle.model.specs.Image.{word, is_start, image_of}
use Rattle.model.specs.Undamaged.{bare, piece}
use Rattle.model.proofs.Laws.{all_make, and_split, and_join, every_use, every_cons, every_nil, same_test}
use Rattle.model.proofs.Entries.{nth_drop}
use Rattle.soundness_laws.specs.Tests.{object_ok, run_ok, piece_ok, next_run}
use Rattle.image_laws.specs.Sized.{Sized}
use Rattle.image_laws.proofs.Parts.{all_cong, zero_stretch}
use Rattle.soundness_laws.proofs.Checks.{all_append}
use Rattle.image_laws.proofs.Lengths.{heap_words}

-- ---- the head of an object, and of a run

pub record Head (k g s n : ℕ) : Type 0 where
  pub pos : 1 ≤ s
  pub few : s ≤ 1024
  pub inside : g + s ≤ 64 * k
  pub links-in : n + 2 ≤ 4 * s

abbrev pub head_ok : ℕ → ℕ → ℕ → ℕ → Bool
head_ok k g s n = (leb s 1024 && leb (g + s) (64 * k)) && leb (n + 2) (4 * s)

pub head_use : (k g s n : ℕ) → head_ok k g s n ≡ true → Head k g s n
head_use k g s n h =
    let a = and_split _ _ h in
    let b = and_split _ _ a.0 in
    let l : n + 2 ≤ 4 * s = leb-true _ _ a.1 in
    record { pos = omega arith; few = leb-true _ _ b.0; inside = leb-true _ _ b.1; links-in = l }

pub head_make : (k g s n : ℕ) → Head k g s n → head_ok k g s n ≡ true
head_make k g s n h = and_join _ _ (and_join _ _ (le-leb _ _ h.few) (le-leb _ _ h.inside)) (le-leb _ _ h.links-in)

abbrev pub run_head_ok : ℕ → ℕ → ℕ → Bool → ℕ → Bool
run_head_ok k g next run s = ((not run && eqb g next) && leb 1 s) && leb (g + s) (64 * k)

run_use : (k g next : ℕ) (run : Bool) (s : ℕ) → run_head_ok k g next run s ≡ true → (not run ≡ true) × (eqb g next ≡ true) × (1 ≤ s) × (g + s ≤ 64 * k)
run_use k g next run s h =
    let a = and_split _ _ h in
    let b = and_split _ _ a.0 in
    let c = and_split (not run) _ b.0 in
    (c.0, c.1, leb-true _ _ b.1, leb-true _ _ a.1)

-- ---- starts inside a piece, apart from its other lines

bare_nowhere : (g s : ℕ) → bare (λ _. false) g s ≡ true
unfolding bare
bare_nowhere g s = all_make (s - 1) _ (λ i h. refl)

pub piece_split : (st : ℕ → Bool) (g s : ℕ) (ws : List ℕ) (next : ℕ) (run b : Bool) → piece st g s ws next run b ≡ (piece (λ _. false) g s ws next run b && bare st g s)
unfolding piece every
piece_split st g s ws next run true = rw (bare_nowhere g s, and_comm (bare st g s)) (simp and_assoc)
piece_split st g s ws next run false = rw (bare_nowhere g s, and_comm (bare st g s)) (simp and_assoc)

pub piece_size : (st : ℕ → Bool) (g s : ℕ) (ws : List ℕ) (next : ℕ) (run b : Bool) → piece st g s ws next run b ≡ true → (1 ≤ s) × (4 * s ≤ suc (length ws))
unfolding piece
piece_size st g s ws next run true e = (leb-true _ _ (every_use _ e 0), leb-true _ _ (every_use _ e 1))
piece_size st g s ws next run false e = (leb-true _ _ (every_use _ e 0), leb-true _ _ (every_use _ e 1))

-- ---- pieces by index

module _ (w k : ℕ) (l : List ℕ) (z : Sized w k l) (g : ℕ) (hg : g < 64 * k) where
  pub tail_at : (i : ℕ) → nth (drop (suc (4 * g)) (image_of w k l).heap) i ≡ word (image_of w k l) g (1 + i)
  unfolding word
  tail_at i = let e : suc (4 * g) + i ≡ 4 * g + (1 + i) = omega arith in rw (nth_drop (suc (4 * g)) (image_of w k l).heap i, e)

  pub tail_long : length (drop (suc (4 * g)) (image_of w k l).heap) ≡ 256 * k - suc (4 * g)
  tail_long = rw (length-drop, heap_words z)

  pub head_is : drop (4 * g) (image_of w k l).heap ≡ word (image_of w k l) g 0 ∷ drop (suc (4 * g)) (image_of w k l).heap
  unfolding word nth
  head_is = let e : 4 * g + 0 ≡ 4 * g = omega arith in rw e (drop-cons (image_of w k l).heap (4 * g) 0 (omega (arith, heap_words z)))

  pub object_is : (s n : ℕ) → s ≡ word (image_of w k l) g 0 → n ≡ word (image_of w k l) g 1 → head_ok k g s n ≡ object_ok (image_of w k l) g
  unfolding object_ok piece
  object_is s n es en =
      let ws : List ℕ = drop (suc (4 * g)) (image_of w k l).heap in
      let t : nth ws 0 ≡ n = tail_at 0 ∙ sym en in
      rw (← es) (same_test _ _
      (λ e.
      let h = head_use k g s n e in
      every_cons _ _ (le-leb _ _ h.pos)
      (every_cons _ _ (le-leb (4 * s) (suc (length ws)) (omega (arith, h.inside, tail_long)))
      (every_cons _ _ (bare_nowhere g s)
      (every_cons _ _ (le-leb _ _ h.few)
      (every_cons _ _ (le-leb (nth ws 0) (4 * s - 2) (omega (arith, h.links-in))) every_nil)))))
      (λ e.
      let a : (1 ≤ s) × (4 * s ≤ suc (length ws)) = piece_size (λ _. false) g s ws 0 false true e in
      let d : nth ws 0 ≤ 4 * s - 2 = leb-true _ _ (every_use _ e 4) in
      head_make k g s n (record { pos = a.0; few = leb-true _ _ (every_use _ e 3); inside = omega (arith, tail_long); links-in = omega arith })))

  -- the words behind a run's two, as they stand in the heap
  tail_zero : (s : ℕ) → 1 ≤ s → g + s ≤ 64 * k → all (4 * s - 2) (λ i. eqb (nth (drop (suc (4 * g)) (image_of w k l).heap) (suc i)) 0) ≡ zeroes (take (4 * s - 2) (drop (4 * g + 2) (image_of w k l).heap))
  unfolding word
  tail_zero s a b =
      all_cong (4 * s - 2) _ _ (λ i h.
      let e : 4 * g + (1 + suc i) ≡ 4 * g + 2 + i = omega arith in
      rw (tail_at (suc i), e))
      ∙ sym (zero_stretch (image_of w k l).heap (4 * g + 2) (4 * s - 2) (omega (arith, heap_words z)))

  module _ (next : ℕ) (run : Bool) (s : ℕ) (es : s ≡ word (image_of w k l) g 0) where
    run_is : run_ok (image_of w k l) g next run ≡ (run_head_ok k g next run s && zeroes (take (4 * s - 2) (drop (4 * g + 2) (image_of w k l).heap)))
    unfolding run_ok piece
    run_is =
        let ws : List ℕ = drop (suc (4 * g)) (image_of w k l).heap in
        rw (← es) (same_test _ _
        (λ e.
        let a : (1 ≤ s) × (4 * s ≤ suc (length ws)) = piece_size (λ _. false) g s ws next run false e in
        let i : g + s ≤ 64 * k = omega (arith, tail_long) in
        and_join _ _ (and_join _ _ (and_join _ _ (and_join _ _ (every_use _ e 3) (every_use _ e 4)) (le-leb _ _ a.0)) (le-leb _ _ i))
        (sym (tail_zero s a.0 i) ∙ every_use _ e 5))
        (λ e.
        let a = and_split _ _ e in
        let h = run_use k g next run s a.0 in
        every_cons _ _ (le-leb _ _ h.2)
        (every_cons _ _ (le-leb (4 * s) (suc (length ws)) (omega (arith, h.3, tail_long)))
        (every_cons _ _ (bare_nowhere g s) (every_cons _ _ h.0 (every_cons _ _ h.1 (every_cons _ _ (tail_zero s h.2 h.3 ∙ a.1) every_nil)))))))

    -- the same words, where a run has few
    pub run_short : (b : Bool) → run_head_ok k g next run s ≡ true → b ≡ zeroes (take (4 * s - 2) (drop (4 * g + 2) (image_of w k l).heap)) → b ≡ run_ok (image_of w k l) g next run
    run_short b h q = rw (run_is, h) q

    pub run_fits : run_head_ok k g next run s ≡ true → (1 ≤ s) × (g + s ≤ 64 * k)
    run_fits h = let r = run_use k g next run s h in (r.2, r.3)

    pub run_no : run_head_ok k g next run s ≡ false → false ≡ run_ok (image_of w k l) g next run
    run_no h = rw (run_is, h)

    pub run_yes : (b : Bool) → run_head_ok k g next run s ≡ true → b ≡ zeroes (take (4 * g + 4 * s - (4 * g + 2)) (drop (4 * g + 2) (image_of w k l).heap)) → b ≡ run_ok (image_of w k l) g next run
    run_yes b h q =
        let n : 4 * g + 4 * s - (4 * g + 2) ≡ 4 * s - 2 = omega arith in
        run_short b h (rw n at q)

  -- ---- a piece is an object or a run

  module _ (next : ℕ) (run : Bool) (t : Bool) (et : t ≡ is_start (image_of w k l) g) where
    pub piece_object : (r : Bool) → t ≡ true → r ≡ object_ok (image_of w k l) g → r ≡ piece_ok (image_of w k l) g next run
    unfolding piece_ok object_ok piece
    piece_object r h e = rw (← et, h) e

    pub piece_run : (r : Bool) → t ≡ false → r ≡ run_ok (image_of w k l) g next run → r ≡ piece_ok (image_of w k l) g next run
    unfolding piece_ok run_ok piece
    piece_run r h e = rw (← et, h) e

    pub next_of_object : t ≡ true → next ≡ next_run (image_of w k l) g next
    unfolding next_run
    next_of_object h = rw (← et, h)

    pub next_of_run : (r : ℕ) → t ≡ false → r ≡ word (image_of w k l) g 1 → r ≡ next_run (image_of w k l) g next
    unfolding next_run
    next_of_run r h e = rw (← et, h) e

-- ---- the words of a run behind its first two, granule by granule

zero_more : (l : List ℕ) (o a b : ℕ) → o + a + b ≤ length l → zeroes (take (a + b) (drop o l)) ≡ (zeroes (take a (drop o l)) && zeroes (take b (drop (o + a) l)))
zero_more l o a b h =
    zero_stretch l o (a + b) (omega arith)
    ∙ (all_append a b (λ i. eqb (nth l (o + i)) 0)
    ∙ rw (zero_stretch l o a (omega arith), zero_stretch l (o + a) b h)
    (ap (λ c. all a (λ i. eqb (nth l (o + i)) 0) && c) (all_cong b _ _ (λ i q. let e : o + (a + i) ≡ o + a + i = omega arith in rw e))))

pub record RestZero (l : List ℕ) (g s : ℕ) (ok : Bool) (i : ℕ) : Type 0 where
  pub some : 1 ≤ i
  pub within : i ≤ s
  pub so_far : ok ≡ zeroes (take (4 * i - 2) (drop (4 * g + 2) l))

module _ (w k : ℕ) (l : List ℕ) (z : Sized w k l) (g s : ℕ) (hs : g + s ≤ 64 * k) where
  pub rest_none : (ok : Bool) → 1 ≤ s → ok ≡ zeroes (take (4 * g + 4 - (4 * g + 2)) (drop (4 * g + 2) (image_of w k l).heap)) → RestZero (image_of w k l).heap g s ok 1
  rest_none ok p e = let n : 4 * g + 4 - (4 * g + 2) ≡ 2 = omega arith in record { some = omega arith; within = p; so_far = rw n at e }

  module _ (ok : Bool) (i : ℕ) (v : RestZero (image_of w k l).heap g s ok i) where
    pub rest_more : (a : ℕ) (t : Bool) → i < s → a ≡ 4 * (g + i) → t ≡ zeroes (take (a + 4 - a) (drop a (image_of w k l).heap)) → RestZero (image_of w k l).heap g s (ok && t) (i + 1)
    rest_more a t h ea e =
        let n : a + 4 - a ≡ 4 = omega arith in
        let o : a ≡ 4 * g + 2 + (4 * i - 2) = omega (arith, v.some) in
        let m : 4 * (i + 1) - 2 ≡ 4 * i - 2 + 4 = omega (arith, v.some) in
        let q : t ≡ zeroes (take 4 (drop (4 * g + 2 + (4 * i - 2)) (image_of w k l).heap)) = rw (n, o) at e in
        record {
          some = omega arith;
          within = omega arith;
          so_far = rw (m, zero_more (image_of w k l).heap (4 * g + 2) (4 * i - 2) 4 (omega (arith, heap_words z, v.some)), v.so_far, q);
        }

    pub rest_end : s ≤ i → ok ≡ zeroes (take (4 * s - 2) (drop (4 * g + 2) (image_of w k l).heap))
    rest_end h = let e : i ≡ s = omega (arith, v.within) in rw e at v.so_far
