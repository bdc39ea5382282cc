-- The sweep from the last granule down is the model's sweep over the pieces; and its runs have what was free and what is freed.
use mathlib.Core.Path.{◌≡◌, refl, sym, ap, subst, ◌∙◌}
use mathlib.Core.Bool.{Bool, true, false, cond}
use mathlib.Core.List.{List, [], ◌∷◌, ◌++◌, append_assoc, append-nil}
use Prim.Native.Nat.{ℕ, zero, suc, ◌+◌, ◌*◌, ◌-◌, ◌<◌, ◌≤◌}
use native.Mathlib.Omega.{arith}
use native.Mathlib.Decide.{ℕ_discrete}
use native.Mathlib.Nat.{add-zero}
use lib.ListN.{length, take, drop, length-append}
use lib.Seq.{take-add, take_at, take_all, drop_at, drop-drop, length-take-le}
use borrow.Author.Tests.{eq-eqb, ne_eqb}
use Rattle.model.specs.Base.{nth}
use Rattle.model.specs.Image.{Image, word, is_start, marked, size, with_heap, with_general, set_first_run}
use Rattle.model.specs.Mutate.{free_from, usable_run}
use Rattle.model.specs.Finish.{run_tail, Swept, swept_words, first_of, swept, sweep}
use Rattle.model.proofs.Entries.{nth_take, nth_drop}
use Rattle.theory.specs.Heap.{Filled, f_end, f_object, f_run, run_words, Bare}
use Rattle.theory.proofs.heap.Free.{chain_end}
use Rattle.theory.proofs.heap.Sums.{long_zero}
use Rattle.theory.proofs.heap.Lists.{nth_head, nth_left, length_run, run_next}
use Rattle.theory.proofs.finish.Sweep.{not_kept, sweep_piece}
use Rattle.runs_laws.specs.declared.Free.{Free}
use Rattle.runs_laws.specs.Granules.{none_free, grown}
use Rattle.finish_laws.specs.Gaps.{Edged, edged, closed_at, kept_at, passed, swept_from, swept_all}
use Rattle.finish_laws.proofs.gaps.Granules.{passed_none, passed_keep, from_suc}
use Rattle.finish_laws.proofs.gaps.Runs.{with_sweep, from, gap_zero, gap_done}

-- ---- one granule

-- no run more
grown_none : (r : Free) → grown r 0 ≡ r
unfolding grown
grown_none r = rw (add-zero, long_zero usable_run, add-zero)

-- the size of a kept object need not be read where the next one starts right behind its first granule
kept_closed : (h : ℕ) (s : Edged) → 1 ≤ size s.image h → kept_at h s ≡ closed_at h (h + size s.image h) s
unfolding kept_at closed_at
kept_closed h s l = elim (ℕ_discrete s.start (h + 1)) [
  | yes u ↦
      let z : s.start - (h + size s.image h) ≡ 0 = omega arith in
      rw (eq-eqb s.start (h + 1) u, z, grown_none s.free, gap_zero s.image (h + size s.image h) s.start (omega arith))
  | no n ↦ rw (ne_eqb s.start (h + 1) n)
]

marked_with_sweep : (m : Image) (hs : List ℕ) (f h : ℕ) → marked (with_sweep m hs f) h ≡ marked m h
unfolding with_sweep set_first_run with_heap with_general marked
marked_with_sweep m hs f h = refl

-- ---- the words of a piece

-- the words behind a piece
words_behind : (H : List ℕ) (g s : ℕ) (ws rest : List ℕ) → drop (4 * g) H ≡ (s ∷ ws) ++ rest → suc (length ws) ≡ 4 * s → drop (4 * (g + s)) H ≡ rest
words_behind H g s ws rest ew lw =
    let q : 4 * (g + s) ≡ 4 * g + 4 * s = omega arith in
    ap (λ (i : ℕ). drop i H) q ∙ sym (drop-drop (4 * s) (4 * g) H) ∙ ap (drop (4 * s)) ew ∙ drop_at (s ∷ ws) rest (4 * s) lw

-- the size of a piece is its first word
size_first : (H : List ℕ) (g s : ℕ) (ws rest : List ℕ) → drop (4 * g) H ≡ (s ∷ ws) ++ rest → nth H (4 * g) ≡ s
size_first H g s ws rest ew =
    let z : 4 * g ≡ 4 * g + 0 = omega arith in
    ap (nth H) z ∙ sym (nth_drop (4 * g) H 0) ∙ ap (λ (l : List ℕ). nth l 0) ew ∙ nth_head s (ws ++ rest)

-- ---- the fold: heap H with marks of m, and the chain of runs as `old` has it

module _ (G : ℕ) (m old : Image) (H : List ℕ) (lH : length H ≡ 4 * G) (hg : 1 < length m.general) (rd : (g i : ℕ) → word old g i ≡ nth H (4 * g + i)) (kept : (g : ℕ) → marked m g ≡ true → is_start m g ≡ true) where
  abbrev s₀ : Edged
  s₀ = edged G none_free (with_sweep m H 0)

  -- the state after the granules from g on; c is what the runs behind the free granules in front have
  abbrev done : ℕ → Swept → Free → Edged
  done g r c = edged (g + r.free) c (from m H hg g r)

  -- granules behind the first of a piece change nothing
  skip : (g s : ℕ) (r : Swept) (c : Free) → g + s ≤ G → swept_from G s₀ (G - (g + s)) ≡ done (g + s) r c → Bare (is_start m) g s → (j : ℕ) → j < s → swept_from G s₀ (G - (g + s) + j) ≡ done (g + s) r c
  skip g s r c hG d ba zero l = ap (swept_from G s₀) (omega arith) ∙ d
  skip g s r c hG d ba (suc j) l =
      let q : G - (g + s) + suc j ≡ suc (G - (g + s) + j) = omega arith in
      rw (q, from_suc)
      (ap (λ (p : Edged). passed p (G - suc (G - (g + s) + j))) (skip g s r c hG d ba j (omega arith))
      ∙ passed_none (done (g + s) r c) (G - suc (G - (g + s) + j))
      (marked_with_sweep m _ _ (G - suc (G - (g + s) + j)) ∙ not_kept (is_start m) (marked m) kept _ (ba (G - suc (G - (g + s) + j)) (omega arith) (omega arith))))

  -- the first granule of a piece, after those behind it
  at_first : (g s : ℕ) (r : Swept) (c : Free) → 1 ≤ s → g + s ≤ G → swept_from G s₀ (G - (g + s)) ≡ done (g + s) r c → Bare (is_start m) g s → swept_from G s₀ (G - g) ≡ passed (done (g + s) r c) g
  at_first g s r c h1 hG d ba =
      let q : G - g ≡ suc (G - (g + s) + (s - 1)) = omega arith in
      let k : G - suc (G - (g + s) + (s - 1)) ≡ g = omega arith in
      rw (q, from_suc, skip g s r c hG d ba (s - 1) (omega arith), k)

  -- a piece that is kept
  module _ (g s x : ℕ) (ws rest : List ℕ) (r : Swept) (c : Free) (ew : drop (4 * g) H ≡ (s ∷ ws) ++ rest) (lw : suc (length ws) ≡ 4 * s) (hl : 4 * (g + s + r.free) ≤ length H) where
    size_here : size (from m H hg (g + s) r) g ≡ s
    unfolding with_sweep set_first_run with_heap with_general size word
    size_here =
        let k : length (take (4 * (g + s + r.free)) H) ≡ 4 * (g + s + r.free) = length-take-le _ H hl in
        rw (add-zero, nth_left (take (4 * (g + s + r.free)) H) r.rest (4 * g) (omega arith), nth_take (4 * (g + s + r.free)) H (4 * g) (omega arith))
        (size_first H g s ws rest ew)

    stays : marked m g ≡ true → passed (done (g + s) r c) g ≡ done g (record { free = 0; rest = (s ∷ ws) ++ swept_words r; next = first_of (g + s) r; freed = x }) (grown c r.free)
    unfolding closed_at
    stays u =
        let q : g + s + r.free - (g + s) ≡ r.free = omega arith in
        let d : 4 * (g + s) ≡ 4 * g + 4 * s = omega arith in
        let front : take (4 * (g + s)) H ≡ take (4 * g) H ++ (s ∷ ws) = rw (d, take-add (4 * g) (4 * s) H, ew, take_at (s ∷ ws) rest (4 * s) lw) in
        passed_keep (done (g + s) r c) g (marked_with_sweep m _ _ g ∙ u)
        ∙ kept_closed g (done (g + s) r c) (omega (arith, size_here))
        ∙ rw (size_here, q, gap_done m H hg (g + s) r hl, front, append_assoc (take (4 * g) H) (s ∷ ws) (swept_words r), add-zero)

  -- the state; and the granules of its runs, which are those freed and those of the chain from `next` on
  pub record Good (g next : ℕ) (r : Swept) : Type 0 where
    pub runs : Free
    pub state : swept_from G s₀ (G - g) ≡ done g r runs
    pub inside : 4 * (g + r.free) ≤ length H
    pub count : (n : ℕ) → G ≤ g + n → runs.granules + r.free ≡ r.freed + free_from old n next

  good_end : (g : ℕ) → 4 * g + 0 ≡ 4 * G → Good g 0 (record { free = 0; rest = []; next = 0; freed = 0 })
  unfolding swept_from
  good_end g e =
      let q : G - g ≡ 0 = omega arith in
      let w : G ≡ g + 0 = omega arith in
      record {
        runs = none_free;
        state = rw (q, ← w, append-nil, take_all (4 * G) H (omega (arith, lH)));
        inside = omega (arith, lH);
        count = λ n l. omega (arith, chain_end old n);
      }

  -- what a piece adds to the runs, and to what is freed and was free
  abbrev Counts : ℕ → ℕ → ℕ → ℕ → List ℕ → Swept → Bool → Type 0
  Counts g s next next' ws r b = (n : ℕ) → G ≤ g + n → (c : ℕ) → ((i : ℕ) → G ≤ g + s + i → c ≡ r.freed + free_from old i next') → cond b 0 s + c ≡ (swept (is_start m) g s ws b r).freed + free_from old n next

  good_piece : (g s next next' : ℕ) (ws rest : List ℕ) (r : Swept) → Bare (is_start m) g s → drop (4 * g) H ≡ (s ∷ ws) ++ rest → suc (length ws) ≡ 4 * s → g + s ≤ G
      → Good (g + s) next' r → (b : Bool) → marked m g ≡ b → Counts g s next next' (s ∷ ws) r b → Good g next (swept (is_start m) g s (s ∷ ws) b r)
  unfolding swept grown
  good_piece g s next next' ws rest r ba ew lw hG d true u cc =
      record {
        runs = grown d.runs r.free;
        state = at_first g s r d.runs (omega arith) hG d.state ba ∙ stays g s r.freed ws rest r d.runs ew lw d.inside u;
        inside = omega (arith, lH);
        count = λ n l. omega (arith, cc n l (d.runs.granules + r.free) (λ i q. d.count i q));
      }
  good_piece g s next next' ws rest r ba ew lw hG d false u cc =
      let q : g + s + r.free ≡ g + (s + r.free) = omega arith in
      record {
        runs = d.runs;
        state = at_first g s r d.runs (omega arith) hG d.state ba ∙ passed_none (done (g + s) r d.runs) g (marked_with_sweep m _ _ g ∙ u) ∙ rw q;
        inside = omega (arith, d.inside);
        count = λ n l. omega (arith, cc n l (d.runs.granules + r.free) (λ i q. d.count i q));
      }

  object_counts : (g s next : ℕ) (ws : List ℕ) (r : Swept) (b : Bool) → is_start m g ≡ true → Counts g s next next ws r b
  unfolding swept
  object_counts g s next ws r true t n l c f = omega (arith, f n (omega arith))
  object_counts g s next ws r false t n l c f = rw t (omega (arith, f n (omega arith)))

  run_counts : (g j next : ℕ) (rest ws : List ℕ) (r : Swept) → is_start m g ≡ false → 1 ≤ g → g + suc j ≤ G → drop (4 * g) H ≡ run_words j next ++ rest → Counts g (suc j) g next ws r false
  unfolding swept free_from
  run_counts zero j next rest ws r t h hG ew n l c f = absurd (omega arith)
  run_counts (suc g) j next rest ws r t h hG ew zero l c f = absurd (omega arith)
  run_counts (suc g) j next rest ws r t h hG ew (suc n) l c f =
      let z : 4 * suc g + 0 ≡ 4 * suc g = omega arith in
      let first : word old (suc g) 0 ≡ suc j = rd (suc g) 0 ∙ rw z (size_first H (suc g) (suc j) (run_tail j next) rest ew) in
      let second : word old (suc g) 1 ≡ next = rd (suc g) 1 ∙ sym (nth_drop (4 * suc g) H 1) ∙ rw ew (run_next j next rest) in
      rw (t, second) (omega (arith, f n (omega arith)))

  pub fold : {g next : ℕ} {b : Bool} {ws : List ℕ} (n : ℕ) → Filled (is_start m) g ws next b → 1 ≤ g → length ws < 4 * n → 4 * g + length ws ≡ 4 * G → drop (4 * g) H ≡ ws → Good g next (sweep (is_start m) (marked m) n g ws)
  fold zero f h l e ew = absurd (omega arith)
  fold {g} (suc n) f_end h l e ew = unfold sweep in good_end g e
  fold {g} {next} (suc n) (f_object s ws rest t o ba f) h l e ew =
      let la : length (ws ++ rest) ≡ length ws + length rest = length-append ws rest in
      let lo : suc (length ws) ≡ 4 * s = o.long in
      subst (Good g next) (sym (sweep_piece (is_start m) (marked m) kept n g s ws rest o.long))
      (good_piece g s next next ws rest (sweep (is_start m) (marked m) n (g + s) rest) ba ew o.long (omega arith)
      (fold {g = g + s} n f (omega arith) (omega arith) (omega arith) (words_behind H g s ws rest ew o.long)) (marked m g) refl
      (object_counts g s next (s ∷ ws) (sweep (is_start m) (marked m) n (g + s) rest) (marked m g) t))
  fold {g} (suc n) (f_run j next rest t ba f) h l e ew =
      let la : length (run_tail j next ++ rest) ≡ length (run_tail j next) + length rest = length-append (run_tail j next) rest in
      let lr : suc (length (run_tail j next)) ≡ 4 * suc j = length_run j next in
      let u : marked m g ≡ false = not_kept (is_start m) (marked m) kept g t in
      subst (Good g g) (sym (sweep_piece (is_start m) (marked m) kept n g (suc j) (run_tail j next) rest (length_run j next) ∙ ap (λ (b : Bool). swept (is_start m) g (suc j) (run_words j next) b (sweep (is_start m) (marked m) n (g + suc j) rest)) u))
      (good_piece g (suc j) g next (run_tail j next) rest (sweep (is_start m) (marked m) n (g + suc j) rest) ba ew (length_run j next) (omega arith)
      (fold {g = g + suc j} n f (omega arith) (omega arith) (omega arith) (words_behind H g (suc j) (run_tail j next) rest ew (length_run j next))) false u
      (run_counts g j next rest (run_words j next) (sweep (is_start m) (marked m) n (g + suc j) rest) t h (omega arith) ew))

-- ---- the whole sweep

-- what the sweep leaves, where r is the model's
pub record SweptRuns (k : ℕ) (m old : Image) (next : ℕ) (r : Swept) : Type 0 where
  pub runs : Free
  pub image : swept_all k m ≡ edged 0 runs (with_sweep m (take 4 m.heap ++ swept_words r) (first_of 1 r))
  pub count : runs.granules ≡ r.freed + free_from old (64 * k) next

module _ (k : ℕ) (m old : Image) (hk : 1 ≤ k) (lH : length m.heap ≡ 4 * (64 * k)) (hg : 1 < length m.general) (eh : m.heap ≡ old.heap) (kept : (g : ℕ) → marked m g ≡ true → is_start m g ≡ true) where
  pub swept-all : {next : ℕ} {b : Bool} (n : ℕ) → Filled (is_start m) 1 (drop 4 m.heap) next b → is_start m 0 ≡ false → length (drop 4 m.heap) < 4 * n → 4 + length (drop 4 m.heap) ≡ 4 * (64 * k)
      → SweptRuns k m old next (sweep (is_start m) (marked m) n 1 (drop 4 m.heap))
  unfolding swept_all closed_at grown with_sweep set_first_run with_heap with_general
  swept-all {next} n f none l e =
      let r : Swept = sweep (is_start m) (marked m) n 1 (drop 4 m.heap) in
      let rd : (g i : ℕ) → word old g i ≡ nth m.heap (4 * g + i) = λ g i. unfold word in rw eh in
      let q : Good (64 * k) m old m.heap lH hg rd kept 1 next r = fold (64 * k) m old m.heap lH hg rd kept n f (omega arith) l (omega arith) refl in
      let t : Edged = edged (64 * k) none_free (with_sweep m m.heap 0) in
      let u : 64 * k ≡ suc (64 * k - 1) = omega arith in
      let z : 64 * k - suc (64 * k - 1) ≡ 0 = omega arith in
      let v : 1 + r.free - 1 ≡ r.free = omega arith in
      let d : Edged = edged (1 + r.free) q.runs (from m m.heap hg 1 r) in
      -- granule 0 is not marked
      let zeroth : passed d 0 ≡ d = passed_none d 0 (marked_with_sweep m _ _ 0 ∙ not_kept (is_start m) (marked m) kept 0 none) in
      let last : swept_from (64 * k) t (64 * k) ≡ d = ap (swept_from (64 * k) t) u ∙ rw (from_suc, q.state, z) zeroth in
      record { runs = grown q.runs r.free; image = rw (last, v, gap_done m m.heap hg 1 r q.inside); count = q.count (64 * k) (omega arith) }
