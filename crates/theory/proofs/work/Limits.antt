-- After a begin nothing is owed, and in no image is more done than 8 × G + 2 × k.
use mathlib.Core.Path.{◌≡◌, refl}
use mathlib.Core.Logic.{inl, inr}
use mathlib.Core.Bool.{true}
use Prim.Native.Nat.{ℕ, ◌+◌, ◌*◌, ◌≤◌}
use native.Mathlib.Omega.{arith}
use borrow.Author.Tests.{eqb-false}
use Rattle.model.specs.Base.{nth, bit, every, sum_below}
use Rattle.model.specs.Image.{Image, granules, word, is_start, size, links, running, with_cards, with_general}
use Rattle.model.specs.Records.{Step, begin}
use Rattle.model.specs.Mutate.{Placing}
use Rattle.model.specs.Collect.{begin_cycle}
use Rattle.model.specs.Steps.{refusal, wrong_phase, accept, act}
use Rattle.model.specs.Bound.{at_most_sharper}
use Rattle.model.proofs.Counts.{sum_most, sum_zero, sum_add, sum_times, cond_most}
use Rattle.model.proofs.Laws.{bool_cases, nth_put_same}
use Rattle.theory.specs.Lines.{Lines, Idle, Undamaged}
use Rattle.theory.specs.Pieces.{sizes, used_granules}
use Rattle.theory.specs.Work.{links_in, mark_paid, taken, is_cleaned, clean_paid, card_paid, marks_paid, cleans_paid, cards_paid, work_done, packet_owed, hand_owed, card_owed, packets_owed, hands_owed, cards_owed, work_owed, Cycling}
use Rattle.theory.proofs.heap.Facts.{laid_of, heap_filled_of, heap_sized_of}
use Rattle.theory.proofs.heap.Free.{total_same, free_count}
use Rattle.theory.proofs.steps.Steps.{line}
use Rattle.theory.proofs.work.PaidReach.{no_links}

-- ---- no more is done than 8 × G + 2 × k

module _ (m : Image) (o : Lines m) where
  abbrev mp : ℕ → ℕ
  mp = mark_paid m.width m.heap m.marks

  abbrev cp : ℕ → ℕ
  cp = clean_paid m.width m.heap m.marks m.cards m.tracers

  -- an object of s granules has at most 4 × s - 2 links
  object_paid : (x : ℕ) → mp x + cp x ≤ 8 * sizes (is_start m) (word m) x
  unfolding mark_paid clean_paid is_cleaned every links_in is_start links size word
  object_paid x = elim (bool_cases (bit m.width m.marks x)) [
    | inl k ↦
        let a = (o.marks_ok.on_starts x k).1 in
        let fits = ((laid_of o).inside x a).0 in
        let clean : cp x ≤ 1 + links_in m.heap x = cond_most (is_cleaned m.width m.marks m.cards m.tracers x) true (1 + links_in m.heap x) (1 + links_in m.heap x) (λ e. refl) (omega arith) in
        rw (k, a) (omega (arith, fits, rw k at clean))
    | inr k ↦ rw k (omega arith)
  ]

  used : sum_below (sizes (is_start m) (word m)) (64 * m.k) + 1 ≤ 64 * m.k
  unfolding used_granules granules
  used = omega (arith, free_count m (heap_filled_of o) (heap_sized_of o))

  cards_most : cards_paid m ≤ 2 * m.k
  unfolding cards_paid card_paid sum_below
  cards_most = omega (arith, sum_most (card_paid m.cards) (λ c. 2) m.k (λ c h. cond_most (taken m.cards c) true 2 2 (λ e. refl) (omega arith)), total_same (λ c. 2) 2 0 m.k (omega arith) (λ h l l'. refl))

  pub done_most : work_done m ≤ at_most_sharper m
  unfolding work_done marks_paid cleans_paid at_most_sharper granules
  done_most =
      omega (
        arith,
        sum_add mp cp (64 * m.k),
        sum_most (λ x. mp x + cp x) (λ x. 8 * sizes (is_start m) (word m) x) (64 * m.k) (λ x h. object_paid x),
        sum_times 8 (sizes (is_start m) (word m)) (64 * m.k),
        used,
        cards_most,
      )

-- ---- after a begin

pub record Begun (m : Image) : Type 0 where
  pub nothing_owed : work_owed m ≡ 0
  pub cycling : Cycling m

-- with no cycle, packets and tracers are zero
begun : (m : Image) → Lines m → Idle m.marks m.packets m.tracers m.players → Begun (begin_cycle m)
unfolding begin_cycle with_general with_cards work_owed packets_owed hands_owed cards_owed packet_owed hand_owed card_owed sum_below
begun m o z = record {
  nothing_owed = omega (
    arith,
    sum_zero (packet_owed m.heap m.packets m.tracers) 32 (λ p h. rw (z.no_packets (32 * p))),
    sum_zero (hand_owed m.heap m.tracers) 8 (λ t h. rw (z.no_tracers (8 * t + 2), no_links o) (omega arith)),
    sum_zero (card_owed m.tracers) 8 (λ t h. rw (z.no_tracers (8 * t + 4))),
  );
  cycling = record {
    runs = nth_put_same m.general 0 1 (omega (arith, o.general-ok.sized));
    cards_once = record { once = λ t u c ht hu x y. absurd (omega (arith, z.no_tracers (8 * t + 4))) };
  };
}

pub begin_begun : (rule : Placing) (m : Image) (s : Step) → Undamaged m → refusal m s begin ≡ 0 → Begun (act rule m s begin).image
unfolding act accept wrong_phase running
begin_begun rule m s u r =
    let e : nth m.general 0 ≡ 0 = omega (arith, u.sound.lines.general-ok.runs, eqb-false (nth m.general 0) 1 (line m s begin r 7)) in
    begun m u.sound.lines (u.sound.idle e)
