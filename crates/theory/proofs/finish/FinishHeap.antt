-- A finish leaves a filled heap whose starts are the kept objects, with their words.
use mathlib.Core.Path.{◌≡◌, sym, ap, fun_ext, ◌∙◌}
use mathlib.Core.Bool.{Bool, true, false}
use mathlib.Core.Logic.{⊎_elim}
use mathlib.Core.List.{List, ◌++◌}
use Prim.Native.Nat.{ℕ, ◌+◌, ◌*◌, ◌-◌, ◌<◌}
use native.Mathlib.Decide.{dec_lt}
use native.Mathlib.Omega.{arith}
use lib.ListN.{length, get_or, take, drop, replicate, length-append, length-drop, length-replicate}
use lib.Seq.{length-take-le, drop_at}
use Rattle.model.specs.Base.{nth, put, zeros}
use Rattle.model.specs.Image.{Image, granules, word, is_start, size, first_run}
use Rattle.model.specs.Finish.{Swept, swept_words, first_of, sweep, kept_set, finish_with}
use Rattle.model.proofs.Laws.{bool_cases, and_split, nth_put_same, length_put}
use Rattle.model.proofs.Bits.{length_add_bits, add_bits_bit, bit_zeros, add_bits_past}
use Rattle.model.proofs.Entries.{nth_take}
use Rattle.model.proofs.Found.{table_below, table_in}
use Rattle.theory.specs.Heap.{HeapFilled, HeapSized}
use Rattle.theory.specs.Sweep.{Stays, SweptOk}
use Rattle.theory.proofs.heap.Lists.{nth_left, nth_right}
use Rattle.theory.proofs.heap.Walk.{word_behind}
use Rattle.theory.proofs.finish.Sweep.{nth_swept, swept_filled, sweep_ok, length_swept, sweep_stays}

-- ---- the set that is kept

-- what is kept is a start
pub kept_start : (m : Image) (g : ℕ) → get_or (kept_set m) g false ≡ true → is_start m g ≡ true
unfolding kept_set
kept_start m g e = (and_split (is_start m g) _ (sym (table_below (granules m) _ g (table_in (granules m) _ g e)) ∙ e)).0

-- ---- the image that a finish leaves, whatever set of starts it keeps

module _ (m : Image) (keep : List Bool) (o : HeapFilled m) (z : HeapSized m) (kept : (g : ℕ) → get_or keep g false ≡ true → is_start m g ≡ true) where
  abbrev keeps : ℕ → Bool
  keeps g = get_or keep g false

  abbrev ws : List ℕ
  ws = drop 4 m.heap

  abbrev swept_heap : Swept
  swept_heap = sweep (is_start m) keeps (granules m) 1 ws

  len : length ws + 4 ≡ 4 * granules m
  len = omega (arith, length-drop 4 m.heap, o.heap_words, z.some_granules)

  ok : SweptOk keeps 1 (length ws) swept_heap
  ok = sweep_ok (is_start m) keeps kept (granules m) o.heap_filled (omega (arith, len))

  four : length (take 4 m.heap) ≡ 4
  four = length-take-le 4 m.heap (omega (arith, o.heap_words, z.some_granules))

  -- starts are exactly what is kept
  pub finish_starts : (g : ℕ) → is_start (finish_with m keep).image g ≡ get_or keep g false
  unfolding finish_with is_start zeros
  finish_starts g = elim (dec_lt g (granules m)) [
    | yes l ↦
        add_bits_bit m.width keeps (granules m) (replicate (length m.starts) 0) g l
        (λ h k. rw length-replicate (z.start_words h k)) (bit_zeros m.width (length m.starts))
    | no l ↦
        add_bits_past m.width keeps (granules m) (replicate (length m.starts) 0) g (omega arith)
        ∙ (bit_zeros m.width (length m.starts) g ∙ sym (⊎_elim (λ e. absurd (l (o.start_range g (kept g e)).1)) (λ e. e) (bool_cases (keeps g))))
  ]

  pub finish_filled : HeapFilled (finish_with m keep).image
  unfolding finish_with first_run granules
  finish_filled = record {
    heap_words = omega (arith, length-append (take 4 m.heap) (swept_words swept_heap), four, length_swept swept_heap, ok.long, len);
    heap_filled =
        rw (fun_ext finish_starts, drop_at (take 4 m.heap) (swept_words swept_heap) 4 four)
        (rw (nth_put_same (put m.general 0 0) 1 (first_of 1 swept_heap) (omega (arith, length_put m.general 0 0, z.general_words)))
        (swept_filled (is_start m) keeps kept 1 (length ws) swept_heap ok));
    start_range = λ g e. o.start_range g (kept g (sym (finish_starts g) ∙ e));
  }

  -- every word of every kept object is as it was
  pub finish_words : (h i : ℕ) → get_or keep h false ≡ true → i < 4 * size m h → word (finish_with m keep).image h i ≡ word m h i
  unfolding finish_with word size Stays
  finish_words h i k l =
      let range = o.start_range h (kept h k) in
      let e : 4 * (h - 1) ≡ 4 * (h - 1) + 0 = omega arith in
      let size_here : nth ws (4 * (h - 1)) ≡ size m h = ap (nth ws) e ∙ word_behind m h 0 range.0 in
      let stays = sweep_stays (is_start m) keeps kept (granules m) o.heap_filled (omega (arith, len)) h i range.0 (omega (arith, len, range.1)) k (omega arith) in
      let j : 4 * h + i ≡ 4 + (4 * (h - 1) + i) = omega (arith, range.0) in
      let j₁ : 4 * (h - 1) + i ≡ 4 * swept_heap.free + (4 * (h - (1 + swept_heap.free)) + i) = omega (arith, stays.0) in
      ap (nth (take 4 m.heap ++ swept_words swept_heap)) j
      ∙ (nth_right (take 4 m.heap) (swept_words swept_heap) _ 4 four
      ∙ (ap (nth (swept_words swept_heap)) j₁ ∙ (nth_swept swept_heap _ ∙ (stays.1 ∙ word_behind m h i range.0))))

  -- granule 0 is as it was
  pub finish_zero : (i : ℕ) → i < 4 → nth (finish_with m keep).image.heap i ≡ nth m.heap i
  unfolding finish_with
  finish_zero i l = nth_left (take 4 m.heap) (swept_words swept_heap) i (omega (arith, four)) ∙ nth_take 4 m.heap i l

  pub finish_sized : HeapSized (finish_with m keep).image
  unfolding finish_with granules zeros
  finish_sized = record {
    some_granules = z.some_granules;
    start_words = λ g l. rw (length_add_bits m.width (λ g. get_or keep g false) (64 * m.k) (replicate (length m.starts) 0), length-replicate) (z.start_words g l);
    general_words = rw (length_put (put m.general 0 0) 1, length_put m.general 0 0) z.general_words;
  }
