-- The usable granules that the sweep counts are those of the chain that it leaves: each gap that it closes is one run more, before all others.
use mathlib.Core.Path.{◌≡◌, refl, sym, ap, ◌∙◌}
use mathlib.Core.Logic.{inl, inr}
use mathlib.Core.Bool.{true, false}
use mathlib.Core.List.{List, ◌++◌}
use Prim.Native.Nat.{ℕ, zero, suc, ◌+◌, ◌*◌, ◌-◌, ◌<◌, ◌≤◌}
use native.Mathlib.Decide.{ℕ_discrete, dec_lt}
use native.Mathlib.Omega.{arith}
use native.Mathlib.Nat.{add-zero}
use lib.ListN.{length, take, drop, replicate, length-append, length-drop, length-replicate}
use lib.Seq.{length-take-le}
use lib.Dec.{eqb}
use borrow.Author.Tests.{eq-eqb, ne_eqb}
use Rattle.model.specs.Base.{nth, put}
use Rattle.model.specs.Image.{Image, word, marked, size, first_run, with_heap, with_general, set_first_run, set_word}
use Rattle.model.specs.Mutate.{sum_runs, if_long, usable_run}
use Rattle.model.proofs.Entries.{nth_take, nth_drop}
use Rattle.model.proofs.Laws.{false≢, bool_cases, nth_put_same, nth_put_other, length_put}
use Rattle.theory.proofs.heap.Lists.{nth_left, nth_right}
use Rattle.theory.proofs.heap.Sums.{sum_end, sum_next, long_zero}
use Rattle.image_laws.specs.Clearing.{zeroed}
use Rattle.runs_laws.specs.Granules.{none_free, grown}
use Rattle.finish_laws.specs.Gaps.{Edged, edged, head_at, run_from, closed_at, kept_at, passed, swept_from, swept_all}
use Rattle.finish_laws.proofs.gaps.Granules.{from_marks, passed_none, passed_keep}
use Rattle.finish_laws.proofs.gaps.Runs.{gap_zero, gap_suc}

-- ---- words cleared

module _ (l : List ℕ) (a e : ℕ) (h : a ≤ e) (long : e ≤ length l) where
  zeroed_before : (x : ℕ) → x < a → nth (zeroed a e l) x ≡ nth l x
  unfolding zeroed
  zeroed_before x q = nth_left (take a l) _ x (omega (arith, length-take-le a l (omega arith))) ∙ nth_take a l x q

  zeroed_behind : (x : ℕ) → e ≤ x → nth (zeroed a e l) x ≡ nth l x
  unfolding zeroed
  zeroed_behind x q =
      let i : x ≡ a + (e - a + (x - e)) = omega arith in
      let j : e + (x - e) ≡ x = omega arith in
      ap (nth (zeroed a e l)) i
      ∙ nth_right (take a l) (replicate (e - a) 0 ++ drop e l) (e - a + (x - e)) a (length-take-le a l (omega arith))
      ∙ nth_right (replicate (e - a) 0) (drop e l) (x - e) (e - a) (length-replicate (e - a) 0)
      ∙ nth_drop e l (x - e)
      ∙ ap (nth l) j

  zeroed_long : length (zeroed a e l) ≡ length l
  unfolding zeroed
  zeroed_long =
      length-append (take a l) (replicate (e - a) 0 ++ drop e l)
      ∙ omega (arith, length-append (replicate (e - a) 0) (drop e l), length-replicate {A = ℕ} (e - a) 0, length-take-le a l (omega arith), length-drop e l)

-- ---- a run written before all others

module _ (m : Image) (a e : ℕ) (h : a < e) (long : 4 * e ≤ length m.heap) (general : 1 < length m.general) where
  abbrev head : List ℕ
  head = put (put (put (put m.heap (4 * a + 0) (e - a)) (4 * a + 1) (first_run m)) (4 * a + 2) 0) (4 * a + 3) 0

  head_long : length head ≡ length m.heap
  head_long = length_put _ (4 * a + 3) 0 ∙ length_put _ (4 * a + 2) 0 ∙ length_put _ (4 * a + 1) (first_run m) ∙ length_put m.heap (4 * a + 0) (e - a)

  run_heap : (run_from m a e).heap ≡ zeroed (4 * a + 4) (4 * e) head
  unfolding run_from head_at set_first_run set_word with_heap with_general
  run_heap = refl

  run_long : length (run_from m a e).heap ≡ length m.heap
  run_long = ap length run_heap ∙ zeroed_long head (4 * a + 4) (4 * e) (omega arith) (omega (arith, head_long)) ∙ head_long

  run_first : (first_run (run_from m a e) ≡ a) × (length (run_from m a e).general ≡ length m.general)
  unfolding run_from head_at set_first_run set_word with_heap with_general first_run
  run_first = (nth_put_same m.general 1 a general, length_put m.general 1 a)

  -- its length, and what was the first run
  run_says : (word (run_from m a e) a 0 ≡ e - a) × (word (run_from m a e) a 1 ≡ first_run m)
  unfolding word
  run_says = rw run_heap (
    zeroed_before head (4 * a + 4) (4 * e) (omega arith) (omega (arith, head_long)) (4 * a + 0) (omega arith)
        ∙ nth_put_other _ (4 * a + 3) (4 * a + 0) 0 (omega arith) ∙ nth_put_other _ (4 * a + 2) (4 * a + 0) 0 (omega arith) ∙ nth_put_other _ (4 * a + 1) (4 * a + 0) (first_run m) (omega arith)
        ∙ nth_put_same m.heap (4 * a + 0) (e - a) (omega arith),
    zeroed_before head (4 * a + 4) (4 * e) (omega arith) (omega (arith, head_long)) (4 * a + 1) (omega arith)
        ∙ nth_put_other _ (4 * a + 3) (4 * a + 1) 0 (omega arith) ∙ nth_put_other _ (4 * a + 2) (4 * a + 1) 0 (omega arith)
        ∙ nth_put_same (put m.heap (4 * a + 0) (e - a)) (4 * a + 1) (first_run m) (omega (arith, length_put m.heap (4 * a + 0) (e - a))),
  )

  run_behind : (g i : ℕ) → e ≤ g → word (run_from m a e) g i ≡ word m g i
  unfolding word
  run_behind g i l = rw run_heap
      (zeroed_behind head (4 * a + 4) (4 * e) (omega arith) (omega (arith, head_long)) (4 * g + i) (omega arith)
      ∙ nth_put_other _ (4 * a + 3) (4 * g + i) 0 (omega arith) ∙ nth_put_other _ (4 * a + 2) (4 * g + i) 0 (omega arith)
      ∙ nth_put_other _ (4 * a + 1) (4 * g + i) (first_run m) (omega arith) ∙ nth_put_other m.heap (4 * a + 0) (4 * g + i) (e - a) (omega arith))

-- ---- the runs behind the edge, whatever stands before it

module _ (G : ℕ) where
  record EdgeCounted (s : Edged) : Type 0 where
    high : s.start ≤ G
    heap_long : length s.image.heap ≡ 4 * G
    general_long : 1 < length s.image.general
    counted : (i : ℕ) → G ≤ s.start + i → (n : Image) → ((g j : ℕ) → s.start ≤ g → word n g j ≡ word s.image g j) → sum_runs (if_long usable_run) n i (first_run s.image) ≡ s.free.usable

  -- the edge goes down to h, with no gap closed
  lower : (h : ℕ) (s : Edged) → h ≤ s.start → EdgeCounted s → EdgeCounted (edged h s.free s.image)
  lower h s l c = record { high = omega (arith, c.high); heap_long = c.heap_long; general_long = c.general_long; counted = λ i q n e. c.counted i (omega arith) n (λ g j p. e g j (omega arith)) }

  module _ (h a : ℕ) (s : Edged) (ha : h ≤ a) (hs : h ≤ s.start) (c : EdgeCounted s) where
    abbrev e : ℕ
    e = s.start

    abbrev m : Image
    m = s.image

    -- a gap closed: its run comes first
    module _ (l : a < e) (pos : 1 ≤ a) where
      fits : 4 * e ≤ length m.heap
      fits = omega (arith, c.high, c.heap_long)

      first_counts : (i : ℕ) → G ≤ h + i → (n : Image) → ((g j : ℕ) → h ≤ g → word n g j ≡ word (run_from m a e) g j) → sum_runs (if_long usable_run) n i (first_run (run_from m a e)) ≡ s.free.usable + if_long usable_run (e - a)
      first_counts zero q n f = absurd (omega (arith, c.high))
      first_counts (suc i) q n f =
          let w = run_says m a e l fits c.general_long in
          rw ((run_first m a e l fits c.general_long).0, sum_next (if_long usable_run) n i a pos, f a 0 ha, f a 1 ha, w.0, w.1)
          (omega (arith, c.counted i (omega arith) n (λ g j p. f g j (omega arith) ∙ run_behind m a e l fits c.general_long g j p)))

    closes : 1 ≤ a → EdgeCounted (closed_at h a s)
    unfolding closed_at grown
    closes pos = elim (dec_lt a e) [
      | yes l ↦ rw (gap_suc m a e l) (record {
        high = omega (arith, c.high);
        heap_long = run_long m a e l (fits l pos) c.general_long ∙ c.heap_long;
        general_long = omega (arith, c.general_long, (run_first m a e l (fits l pos) c.general_long).1);
        counted = first_counts l pos;
      })
      | no l ↦
          let z : e - a ≡ 0 = omega arith in
          let k = lower h s hs c in
          rw (gap_zero m a e (omega arith), z, long_zero usable_run, add-zero, add-zero) k
    ]

  -- one granule
  passes : (h : ℕ) (s : Edged) → h < s.start → (marked s.image h ≡ true → 1 ≤ h) → EdgeCounted s → EdgeCounted (passed s h)
  passes h s l pos c = elim (bool_cases (marked s.image h)) [
    | inr u ↦ rw (passed_none s h u) c
    | inl u ↦ rw (passed_keep s h u) (elim (ℕ_discrete s.start (h + 1)) [
      | yes q ↦ unfold kept_at in rw (eq-eqb s.start (h + 1) q) (lower h s (omega arith) c)
      | no q ↦ unfold kept_at in rw (ne_eqb s.start (h + 1) q) (closes h (h + size s.image h) s (omega arith) (omega arith) c (omega (arith, pos u)))
    ])
  ]

  edge_at : (s : Edged) (h : ℕ) → h ≤ s.start → h ≤ (passed s h).start
  unfolding passed kept_at closed_at
  edge_at s h l = elim (bool_cases (marked s.image h)) [
    | inr u ↦ rw u l
    | inl u ↦ elim (bool_cases (eqb s.start (h + 1))) [ inl q ↦ rw (u, q) (omega arith) | inr q ↦ rw (u, q) (omega arith) ]
  ]

  -- several, from the last down; granule 0 is not marked
  module _ (s : Edged) (c : EdgeCounted s) (none : marked s.image 0 ≡ false) where
    chained_from : (i : ℕ) → s.start ≡ G → i ≤ G → EdgeCounted (swept_from G s i) × (G - i ≤ (swept_from G s i).start)
    unfolding swept_from
    chained_from zero e l = (c, omega arith)
    chained_from (suc i) e l =
        let r = chained_from i e (omega arith) in
        let t : Edged = swept_from G s i in
        let pos : marked t.image (G - suc i) ≡ true → 1 ≤ G - suc i = λ u. elim (ℕ_discrete (G - suc i) 0) [ yes z ↦ false≢ (sym none ∙ (rw z at (sym (from_marks G s i (G - suc i)) ∙ u))) | no z ↦ omega arith ] in
        (passes (G - suc i) t (omega (arith, r.1)) pos r.0, edge_at t (G - suc i) (omega (arith, r.1)))

-- ---- the whole

pub swept_usable : (k : ℕ) (m : Image) → length m.heap ≡ 4 * (64 * k) → 1 < length m.general → marked m 0 ≡ false → (swept_all k m).free.usable ≡ sum_runs (if_long usable_run) (swept_all k m).image (64 * k) (first_run (swept_all k m).image)
unfolding swept_all
swept_usable k m lh lg none =
    let G : ℕ = 64 * k in
    let s : Edged = edged G none_free (set_first_run m 0) in
    let c : EdgeCounted G s = record {
      high = omega arith;
      heap_long = unfold set_first_run with_general in lh;
      general_long = unfold set_first_run with_general in (omega (arith, lg, length_put m.general 1 0));
      counted = λ i q n f. unfold set_first_run with_general first_run in rw (nth_put_same m.general 1 0 lg) (sum_end (if_long usable_run) n i);
    } in
    let r = chained_from G s c (unfold set_first_run with_general marked in none) G refl (omega arith) in
    let t = closes G 0 1 (swept_from G s G) (omega arith) (omega arith) r.0 (omega arith) in
    sym (t.counted G (omega arith) _ (λ g j p. refl))
