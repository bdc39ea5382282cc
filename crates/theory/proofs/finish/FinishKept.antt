-- A finish keeps "undamaged": links and registers of what it leaves are nil or kept.
use mathlib.Core.Path.{◌≡◌, ◌∙◌}
use mathlib.Core.Logic.{inl, inr}
use mathlib.Core.Bool.{true, false}
use Prim.Native.Nat.{ℕ, ◌*◌, ◌<◌, ◌+◌, ◌/◌, ◌%◌, ◌≤◌}
use native.Mathlib.Decide.{ℕ_discrete, dec_lt}
use native.Mathlib.Omega.{arith}
use lib.ListN.{get_or, drop}
use Rattle.model.specs.Base.{nth, put}
use Rattle.model.specs.Image.{Image, granules, word, is_start, marked, links, link, running, size, reg, first_run}
use Rattle.model.specs.Undamaged.{filled}
use Rattle.model.specs.Finish.{kept_set, Kept, finish_step, found_reg, kept_found, first_of, sweep, finish_with}
use Rattle.model.specs.Claim.{Finishes}
use Rattle.model.proofs.Laws.{nth_put_same, length_put, nth_out}
use Rattle.model.proofs.Bits.{no_bit}
use Rattle.theory.specs.Cycle.{Facts}
use Rattle.theory.specs.Lines.{NilOr, Start, Lines, Sound, Undamaged, HeapOk}
use Rattle.theory.specs.Finish.{FinishMade}
use Rattle.theory.proofs.heap.Facts.{heap_filled_of, heap_sized_of, laid_of, proper_of, some_card, link_value, start_at}
use Rattle.theory.proofs.finish.Finishes.{finishes}
use Rattle.theory.proofs.lines.Judged.{counted_of}
use Rattle.theory.proofs.finish.Replaced.{cleared_keeps}
use Rattle.theory.proofs.finish.Safe.{start_below, kept_link}
use Rattle.theory.proofs.heap.Walk.{filled_make, no_start_zero}
use Rattle.theory.proofs.finish.FinishMade.{finish_made}
use Rattle.theory.proofs.steps.Tracing.{in_hand_ok}

-- what the list claims need of an image, from its lines
pub facts_of : {m : Image} → Sound m → Facts m
unfolding marked running
facts_of {m} s =
    let o : Lines m = s.lines in
    record {
      proper = proper_of o;
      laid = laid_of o;
      counted = counted_of m o;
      regs_length = o.regs_ok.sized;
      players_length = o.players_ok.sized;
      hand-ok = λ t h n. let r = in_hand_ok m o t h n in (r.0, r.1);
      idle = λ n g. no_bit m.width m.marks (s.idle (omega (arith, o.general-ok.runs))).no_marks g;
    }

module _ (m : Image) (u : Undamaged m) where
  o : Lines m
  o = u.sound.lines

  made : FinishMade m (kept_set m) (finish_step m)
  made = finish_made m (heap_filled_of o) (heap_sized_of o)

  pub finish_does : Finishes m (finish_step m).image
  finish_does = finishes m (facts_of u.sound) u.cover made

  -- what is kept is a start of what is left
  kept_nil : (a : ℕ) → ((a ≡ 0 → ⊥) → Kept m a) → NilOr (Start m) a → NilOr (λ x. (x < 64 * m.k) × (is_start (finish_step m).image x ≡ true)) a
  unfolding is_start
  kept_nil a k (inl z) = inl z
  kept_nil a k (inr s) = elim (ℕ_discrete a 0) [ yes z ↦ inl z | no nz ↦ inr (s.0, (finish_does.kept_stay a s.1 (k nz)).stays) ]

  link_kept : (g : ℕ) → is_start (finish_step m).image g ≡ true → (i : ℕ) → i < links (finish_step m).image g
      → NilOr (λ x. (x < 64 * m.k) × (is_start (finish_step m).image x ≡ true)) (link (finish_step m).image g i)
  unfolding links link
  link_kept g s i l =
      let was = finish_does.only_kept g s in
      let inside : links m g + 2 ≤ 4 * size m g = ((laid_of o).inside g was.0).0 in
      let same = (finish_does.kept_stay g was.0 was.1).same_words in
      let l' : i < links m g = rw (same 1 (omega arith)) at l in
      let kept = kept_link m u.cover g i (start_below m (laid_of o) g was.0) was.1 l' in
      rw (same (2 + i) (omega arith)) (kept_nil (link m g i) kept (link_value o g i (start_at o g was.0) l'))

  reg_kept : (i : ℕ) → NilOr (λ x. (x < 64 * m.k) × (is_start (finish_step m).image x ≡ true)) (nth m.regs i)
  unfolding reg
  reg_kept i =
      let place : 16 * (i / 16) + i % 16 ≡ i = omega arith in
      elim (dec_lt i 256) [
        | yes h ↦ kept_nil (nth m.regs i) (λ nz. kept_found (found_reg (i / 16) (i % 16) (omega arith) (omega arith) (rw place) nz)) (o.regs_ok.values i)
        | no h ↦ inl (nth_out m.regs i (omega (arith, o.regs_ok.sized)))
      ]

  heap_left : HeapOk m.width m.k (finish_step m).image.heap (finish_step m).image.starts (first_of 1 (sweep (is_start m) (λ g. get_or (kept_set m) g false) (granules m) 1 (drop 4 m.heap)))
  unfolding is_start granules links link word filled finish_step finish_with first_run
  heap_left = record {
    sized = made.filled.heap_words;
    starts_sized = made.starts_length ∙ o.heap_ok.starts_sized;
    blank = λ i h. made.granule_zero i h ∙ o.heap_ok.blank i h;
    unused = no_start_zero made.filled;
    within = λ g s. (made.filled.start_range g s).1;
    filled =
        rw (nth_put_same (put m.general 0 0) 1 _ (simp length_put (omega (arith, o.general-ok.sized))))
        at (filled_make (finish_step m).image (omega (arith, some_card o)) made.filled);
    links-ok = λ g i h s l. link_kept g s i l;
  }

  pub finish_keeps : Undamaged (finish_step m).image
  unfolding finish_step finish_with is_start
  finish_keeps = cleared_keeps m o _ _ _ heap_left reg_kept
