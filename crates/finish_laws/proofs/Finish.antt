-- A finish as the code does it is the model's: marking, sweep and end together, on every sound image.
use mathlib.Core.Path.{◌≡◌, refl, sym, ap, fun_ext, ◌∙◌}
use mathlib.Core.Bool.{Bool, true, false}
use mathlib.Core.List.{List, ◌++◌}
use Prim.Native.Nat.{ℕ, ◌+◌, ◌*◌, ◌-◌, ◌^◌, ◌<◌, ◌≤◌}
use native.Mathlib.Omega.{arith}
use lib.ListN.{length, replicate, get_or, take, drop, length-drop}
use lib.Seq.{set_comm}
use borrow.Author.Tests.{not-true}
use Rattle.model.specs.Base.{nth, put, zeros, add_bits}
use Rattle.model.specs.Image.{Image, granules, is_start, marked, word, first_run, image_of, with_heap, with_starts, with_marks, with_counts, with_packets, with_tracers, with_players, with_general, set_first_run}
use Rattle.model.specs.Mutate.{sum_runs, free_from, free_granules, if_long, usable_run, granules_in_runs, usable_granules}
use Rattle.model.specs.Finish.{Kept, kept_marked, kept_found, kept_set, Swept, swept_words, first_of, sweep, Finish, finish_with, finish_step}
use Rattle.theory.specs.Lines.{Lines, Sound}
use Rattle.theory.proofs.lines.Sizes.{fits_sizes}
use Rattle.model.proofs.Sited.{Sited}
use Rattle.theory.proofs.lines.Passing.{sited_of}
use Rattle.model.proofs.Found.{found_start, set_kept, kept-set}
use Rattle.theory.specs.Heap.{Filled, HeapFilled}
use Rattle.theory.proofs.heap.Facts.{heap_filled_of, heap_sized_of}
use Rattle.theory.proofs.heap.Free.{finish_value}
use Rattle.theory.proofs.heap.Sums.{sum_alike}
use Rattle.theory.proofs.heap.Walk.{no_start_zero}
use Rattle.model.proofs.Laws.{false≢, same_test, not_make, nth_put_other}
use Rattle.finish_laws.specs.Ending.{StartsKept, scanned_off_to, ended, finished}
use Rattle.runs_laws.specs.declared.Free.{Free}
use Rattle.runs_laws.specs.Granules.{free_of}
use Rattle.finish_laws.specs.Gaps.{Edged, edged, swept_all}
use Rattle.finish_laws.proofs.Ending.{off_to_all}
use Rattle.finish_laws.proofs.gaps.Pieces.{SweptRuns, swept-all}
use Rattle.finish_laws.proofs.gaps.Counted.{swept_usable}
use Rattle.finish_laws.proofs.gaps.Runs.{with_sweep}
use Rattle.image_laws.specs.Sized.{Sized}
use Rattle.image_laws.proofs.Lengths.{width_image, cards_image, sized_width, starts_words, marks_words, cards_words}
use Rattle.image_laws.proofs.Sections.{image_fits, granules_image}
use Rattle.image_laws.proofs.Words.{zero_words, bit_words}
use Rattle.finish_marking_laws.specs.Seeds.{KeptMarked}
use Rattle.finish_marking_laws.proofs.seeds.Bared.{same_section}

-- ---- what is marked is the computed set

kept_start : (m : Image) → Sited m → Lines m → (g : ℕ) → Kept m g → is_start m g ≡ true
unfolding is_start marked
kept_start m s o g (kept_marked h) = (o.marks_ok.on_starts g h).1
kept_start m s o g (kept_found h) = (found_start m s h).1

-- ---- the whole

module _ {w k : ℕ} {ws ws1 : List ℕ} (z : Sized w k ws) (z1 : Sized w k ws1) (e : Sound (image_of w k ws)) (q : KeptMarked (image_of w k ws) (image_of w k ws1)) where
  abbrev m : Image
  m = image_of w k ws

  abbrev m1 : Image
  m1 = image_of w k ws1

  abbrev is_kept : ℕ → Bool
  is_kept g = get_or (kept_set m) g false

  same_set : (g : ℕ) → marked m1 g ≡ is_kept g
  same_set g =
      let s = sited_of m (image_fits z) e in
      same_test _ _ (λ h. let r = q.only g h in kept-set m s g (kept_start m s e.lines g r) r) (λ h. q.all g (set_kept m s g h).1)

  -- the sweep over what is kept, and over the marks
  kept_sweep : Swept
  kept_sweep = sweep (is_start m) is_kept (granules m) 1 (drop 4 m.heap)

  marks_sweep : Swept
  marks_sweep = sweep (is_start m1) (marked m1) (granules m) 1 (drop 4 m1.heap)

  same_sweep : marks_sweep ≡ kept_sweep
  unfolding kept_sweep marks_sweep
  same_sweep = rw (fun_ext q.starts, fun_ext same_set, q.heap)

  swept_runs : SweptRuns k m1 m (first_run m) marks_sweep
  unfolding marks_sweep
  swept_runs =
      let heap : HeapFilled m = heap_filled_of e.lines in
      let filled : Filled (is_start m1) 1 (drop 4 m1.heap) (first_run m) false = rw (fun_ext q.starts, q.heap) heap.heap_filled in
      let long : length m1.heap ≡ 4 * (64 * k) = rw (cards_image w k ws1) at (fits_sizes m1 (image_fits z1)).heap_size in
      let behind : 4 + length (drop 4 m1.heap) ≡ 4 * (64 * k) = omega (arith, length-drop 4 m1.heap, z.low) in
      swept-all k m1 m z.low long (omega (arith, (fits_sizes m1 (image_fits z1)).general_size)) q.heap
      (λ g h. q.starts g ∙ kept_start m (sited_of m (image_fits z) e) e.lines g (q.only g h))
      (granules m) filled (q.starts 0 ∙ no_start_zero heap) (omega (arith, granules_image w k ws)) behind

  -- ---- the value

  -- the runs have what was free and what is freed
  runs_grow : (a : ℕ) (b : Free) (m2 : Image) → a ≡ free_granules m → edged 0 b m2 ≡ swept_all k m1 → b.granules ≡ marks_sweep.freed + a
  unfolding free_granules
  runs_grow a b m2 ea eb =
      let u : b.granules ≡ swept_runs.runs.granules = ap (λ (s : Edged). s.free.granules) (eb ∙ swept_runs.image) in
      let c : free_from m (64 * k) (first_run m) ≡ a = ap (λ (n : ℕ). free_from m n (first_run m)) (sym (granules_image w k ws)) ∙ sym ea in
      omega (arith, swept_runs.count)

  pub value_fits : (a : ℕ) (b : Free) (m2 : Image) → a ≡ free_granules m → edged 0 b m2 ≡ swept_all k m1 → a ≤ b.granules
  value_fits a b m2 ea eb = omega (arith, runs_grow a b m2 ea eb)

  -- ---- the sections

  starts_is : ((i : ℕ) → nth m1.marks i < 2 ^ w) → m1.marks ≡ add_bits m.width is_kept (granules m) (zeros m.starts)
  unfolding marked
  starts_is small =
      bit_words w k (sized_width z) is_kept m1.marks (marks_words z1) small (λ g h. rw (width_image w k ws1) at (same_set g)) m.starts (starts_words z)
      ∙ rw (granules_image w k ws, width_image w k ws)

  pub finish_whole : (a : ℕ) (b : Free) (m2 m3 m4 : Image) → a ≡ free_granules m → edged 0 b m2 ≡ swept_all k m1 → StartsKept w m2 m3 → m4 ≡ ended m3 → finished (b.granules - a) m4 ≡ finish_step m
  unfolding finish_step finish_with kept_sweep ended with_sweep set_first_run with_heap with_starts with_marks with_counts with_packets with_tracers with_players with_general zeros put
  finish_whole a b m2 m3 m4 ea e2 s e4 =
      let value_is : b.granules - a ≡ marks_sweep.freed = omega (arith, runs_grow a b m2 ea e2) in
      let i : Image = with_sweep m1 (take 4 m1.heap ++ swept_words marks_sweep) (first_of 1 marks_sweep) in
      let whole : m2 ≡ i = ap (λ (t : Edged). t.image) (e2 ∙ swept_runs.image) in
      let fields : ended (with_starts i m1.marks) ≡ (finish_with m (kept_set m)).image = λ x. record {
        width = (width_image w k ws1 ∙ sym (width_image w k ws)) x;
        k = (cards_image w k ws1 ∙ sym (cards_image w k ws)) x;
        heap = take 4 (q.heap x) ++ swept_words (same_sweep x);
        starts = starts_is (λ i. rw (ap (λ (i : Image). i.marks) whole) at (s.small i)) x;
        marks = replicate ((marks_words z1 ∙ sym (marks_words z)) x) 0;
        cards = zero_words m1.cards m.cards (cards_words z1 ∙ sym (cards_words z)) q.cards x;
        counts = zeros (same_section q.rest 5 x);
        regs = same_section q.rest 0 x;
        packets = zeros (same_section q.rest 1 x);
        tracers = zeros (same_section q.rest 2 x);
        players = (ap (λ (l : List ℕ). scanned_off_to l 16) (same_section q.rest 3) ∙ off_to_all m.players 16 (fits_sizes m (image_fits z)).players_size) x;
        general = (set_comm m1.general 1 0 (first_of 1 marks_sweep) 0 (omega arith) ∙ (λ y. put (put (same_section q.rest 4 y) 0 0) 1 (first_of 1 (same_sweep y)))) x;
      } in
      λ x. record {
        image = (e4 ∙ ap ended s.image ∙ ap (λ (i : Image). ended (with_starts i i.marks)) whole ∙ fields) x;
        value = (value_is ∙ (λ y. (same_sweep y).freed)) x;
      }

  -- ---- the usable granules

  -- what the sweep counts is what the chain has, and nothing that ends a cycle changes the chain
  finish_usable : (b : Free) (m2 m3 m4 : Image) → edged 0 b m2 ≡ swept_all k m1 → StartsKept w m2 m3 → m4 ≡ ended m3 → b.usable ≡ usable_granules m4
  unfolding usable_granules granules_in_runs granules ended with_sweep set_first_run with_heap with_starts with_marks with_counts with_packets with_tracers with_players with_general
  finish_usable b m2 m3 m4 e2 s e4 =
      let heap : length m1.heap ≡ 4 * (64 * k) = rw (cards_image w k ws1) at (fits_sizes m1 (image_fits z1)).heap_size in
      let none : marked m1 0 ≡ false = not-true _ (not_make _ (λ u. false≢ (sym (no_start_zero (heap_filled_of e.lines)) ∙ kept_start m (sited_of m (image_fits z) e) e.lines 0 (q.only 0 u)))) in
      let counted = swept_usable k m1 heap (omega (arith, (fits_sizes m1 (image_fits z1)).general_size)) none in
      let same : m4 ≡ ended (with_starts m2 m2.marks) = e4 ∙ ap ended s.image in
      let cards : granules m2 ≡ 64 * k = ap (λ (t : Edged). granules t.image) (e2 ∙ swept_runs.image) ∙ (unfold granules in granules_image w k ws1) in
      let first : first_run (ended (with_starts m2 m2.marks)) ≡ first_run m2 = unfold first_run in nth_put_other m2.general 0 1 0 (omega arith) in
      let alike = sum_alike (if_long usable_run) m2 (ended (with_starts m2 m2.marks)) (λ g i. unfold word in refl) (granules m2) (first_run m2) in
      rw (same, first) ((rw (← e2) at counted) ∙ ap (λ n. sum_runs (if_long usable_run) m2 n (first_run m2)) (sym cards) ∙ sym alike)

  -- all free granules, by the value
  finish_granules : (a : ℕ) (b : Free) (m2 m3 m4 : Image) → a ≡ free_granules m → edged 0 b m2 ≡ swept_all k m1 → StartsKept w m2 m3 → m4 ≡ ended m3 → b.granules ≡ free_granules m4
  unfolding finish_step
  finish_granules a b m2 m3 m4 ea e2 s e4 =
      let t = sited_of m (image_fits z) e in
      let whole = finish_whole a b m2 m3 m4 ea e2 s e4 in
      let grows = finish_value m (kept_set m) (heap_filled_of e.lines) (heap_sized_of e.lines) (λ g h. kept_start m t e.lines g (set_kept m t g h).1) in
      omega (arith, ap (λ (f : Finish). f.value) whole, ap (λ (f : Finish). free_granules f.image) whole, grows, value_fits a b m2 ea e2)

  pub finish_free : (a : ℕ) (b : Free) (m2 m3 m4 : Image) → a ≡ free_granules m → edged 0 b m2 ≡ swept_all k m1 → StartsKept w m2 m3 → m4 ≡ ended m3 → b ≡ free_of m4
  finish_free a b m2 m3 m4 ea e2 s e4 x = record { granules = finish_granules a b m2 m3 m4 ea e2 s e4 x; usable = finish_usable b m2 m3 m4 e2 s e4 x }
