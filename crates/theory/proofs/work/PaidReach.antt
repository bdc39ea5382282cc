-- A reach pays for itself; the next link of an object in hand pays for its step.
use mathlib.Core.Path.{◌≡◌, refl, ap}
use mathlib.Core.Logic.{inl, inr}
use mathlib.Core.Bool.{false, cond}
use mathlib.Core.List.{List, [], ◌∷◌}
use Prim.Native.Nat.{ℕ, suc, ◌+◌, ◌*◌, ◌-◌, ◌/◌, ◌≤◌, ◌<◌}
use native.Mathlib.Omega.{arith}
use lib.Dec.{ltb, eqb}
use lib.ListN.{length}
use borrow.Author.Tests.{eqb-false}
use Rattle.model.specs.Base.{nth, put, some, bit, set_bit}
use Rattle.model.specs.Image.{Image, word, marked, links, link, count, output, hand, next_link, with_marks, with_counts, with_packets, with_tracers, set_mark, mark_object, dirty_state, dirty_card, set_tracer}
use Rattle.model.specs.Collect.{emptiest, append, no_output, take_output, enter, reach, reach_all, put_hand, trace_hand}
use Rattle.model.proofs.Laws.{bool_cases, some_false, nth_put_other}
use Rattle.model.proofs.Bits.{set_bit_same, set_bit_keeps}
use Rattle.model.proofs.Counts.{sum_more, sum_change, cond_most}
use Rattle.theory.specs.Lines.{PacketsOk, NilOr, Start, Lines}
use Rattle.theory.specs.Work.{links_in, mark_paid, marks_paid, cleans_paid, cards_paid, work_done, hand_owed, hands_owed, work_owed, Pays}
use Rattle.theory.proofs.lines.Sections.{dirty_changes}
use Rattle.theory.proofs.steps.Reaching.{enter_cases, mark_lines, take_lines, took, reach_does, reach_all_by}
use Rattle.theory.proofs.steps.Tracing.{in_hand_ok}
use Rattle.theory.proofs.work.Tracers.{SameAt, both, both_off, both_other, both_first, both_second}
use Rattle.theory.proofs.work.PaidSections.{packets_same, hands_same, held_same, tracers_done, SameWork, state_work, cleans_most, append_owed}

-- ---- paying

pub pays_refl : (m : Image) → Pays 0 m m
pays_refl m = record { pays = omega arith }

pub pays_then : {l m n : Image} {a b : ℕ} → Pays a l m → Pays b m n → Pays (a + b) l n
pays_then p q = record { pays = omega (arith, p.pays, q.pays) }

pub pays_same : {m n : Image} → SameWork m n → Pays 0 m n
pays_same s = record { pays = omega (arith, s.same_done, s.same_owed) }

-- ---- an object is marked

module _ (m : Image) (o : Lines m) (a : ℕ) (sa : Start m a) where
  room : a / m.width < length m.marks
  room = o.marks_ok.sized a sa.0

  abbrev ms : List ℕ
  ms = set_bit m.width m.marks a

  marks_more : marked m a ≡ false → marks_paid m + (2 + links_in m.heap a) ≤ marks_paid (mark_object m a)
  unfolding marks_paid mark_paid mark_object set_mark with_marks with_counts marked
  marks_more un = sum_more _ _ (64 * m.k) a (2 + links_in m.heap a) sa.0
      (λ g h. cond_most (bit m.width m.marks g) (bit m.width ms g) _ _ (set_bit_keeps m.width m.marks a g room) (omega arith))
      (rw (un, set_bit_same m.width m.marks a room) (omega arith))

  mark_done : marked m a ≡ false → work_done m + (2 + links_in m.heap a) ≤ work_done (mark_object m a)
  unfolding work_done cleans_paid cards_paid mark_object set_mark with_marks with_counts
  mark_done un = omega (arith, marks_more un, cleans_most m ms m.cards m.tracers (λ x. set_bit_keeps m.width m.marks a x room) (λ c k. k) (λ x k e. e))

mark_owed : (m : Image) (a : ℕ) → work_owed (mark_object m a) ≡ work_owed m
unfolding work_owed mark_object set_mark with_marks with_counts
mark_owed m a = refl

-- ---- an output packet is taken: nothing here reads it

output_work : (m : Image) (t : ℕ) → SameWork m (take_output m t)
unfolding work_owed take_output set_tracer with_tracers
output_work m t =
    let us : List ℕ = put m.tracers (8 * t + 1) (cond (no_output m t) (emptiest (set_tracer m t 1 0)) (output m t)) in
    record {
      same_done = tracers_done m us (λ u. nth_put_other _ _ _ _ (omega arith)) (λ u. nth_put_other _ _ _ _ (omega arith));
      same_owed = omega (
        arith,
        packets_same m.tracers us m.heap m.packets (λ u. nth_put_other _ _ _ _ (omega arith)),
        hands_same m.tracers us m.heap (λ u. nth_put_other _ _ _ _ (omega arith)) (λ u. nth_put_other _ _ _ _ (omega arith)),
        held_same m.tracers us (λ u. nth_put_other _ _ _ _ (omega arith)),
      );
    }

-- ---- an object is entered, or its card turns dirty

-- nothing more is done, and no more than n more is owed
pub record Owes (n : ℕ) (m m' : Image) : Type 0 where
  pub same_done : work_done m' ≡ work_done m
  pub more_owed : work_owed m' ≤ work_owed m + n

append_owes : {Mk : ℕ → Type 0} (m : Image) → PacketsOk Mk m.packets → (p a : ℕ) → p < 32 → count m p < 30 → Owes (2 + links_in m.heap a) m (append m p a)
unfolding work_done marks_paid cleans_paid cards_paid work_owed append with_packets count
append_owes m o p a hp hc = record { same_done = refl; more_owed = omega (arith, append_owed m.heap m.packets m.tracers o.sized o.few p hp a hc) }

enter_owes : {Mk : ℕ → Type 0} (m : Image) → PacketsOk Mk m.packets → (t a : ℕ) → ((p : ℕ) → output m t ≡ suc p → (p < 32) × (count m p < 30)) → Owes (2 + links_in m.heap a) m (enter m t a)
enter_owes m o t a f =
    let d : SameWork m (dirty_card m (a / 64)) = unfold dirty_card in state_work dirty_state dirty_changes m (a / 64) in
    enter_cases (Owes (2 + links_in m.heap a) m) m t a (record { same_done = d.same_done; more_owed = omega (arith, d.same_owed) }) (λ p e. append_owes m o p a (f p e).0 (f p e).1)

-- ---- reach

module _ (m : Image) (o : Lines m) (t a : ℕ) (ht : t < 8) where
  reach_new : Start m a → marked m a ≡ false → Pays 0 m (enter (take_output (mark_object m a) t) t a)
  reach_new sa un =
      let m₁ : Image = mark_object m a in
      let o₁ : Lines m₁ = mark_lines o a sa un in
      let s = output_work m₁ t in
      let heap : links_in (take_output m₁ t).heap a ≡ links_in m.heap a = unfold take_output set_tracer with_tracers mark_object set_mark with_marks with_counts in refl in
      let counts : (p : ℕ) → count (take_output m₁ t) p ≡ count m₁ p = λ p. unfold take_output set_tracer with_tracers count in refl in
      let e = enter_owes (take_output m₁ t) (take_lines o₁ t ht).packets_ok t a (λ p q. let r = took o₁ t p ht q in (r.0, rw (counts p) r.1)) in
      record { pays = omega (arith, mark_done m o a sa un, mark_owed m a, s.same_done, s.same_owed, e.same_done, e.more_owed, heap) }

  pub reach_pays : NilOr (Start m) a → Pays 0 m (reach m t a)
  unfolding reach
  reach_pays ok = elim (bool_cases (some (eqb a 0 ∷ marked m a ∷ []))) [
    | inl e ↦ rw (e, reach) (pays_refl m)
    | inr e ↦ rw (e, reach) (elim ok [ inl z ↦ absurd (eqb-false _ _ (some_false _ e 0) z) | inr sa ↦ reach_new sa (some_false _ e 1) ])
  ]

pub reach_all_pays : (m : Image) → Lines m → (t : ℕ) → t < 8 → (l : List ℕ) → ((i : ℕ) → NilOr (Start m) (nth l i)) → Pays 0 m (reach_all m t l)
reach_all_pays m o t ht = reach_all_by (Pays 0) (λ n p. pays_refl n) (λ x y z. pays_then) t ht (λ n p a. reach_pays n p t a ht) m o

-- ---- the hand

module _ (m : Image) (t g i : ℕ) where
  abbrev us : List ℕ
  us = both m.tracers t 2 g 3 i

  same_at : (j : ℕ) → (j < 8) × (j ≡ 2 → ⊥) × (j ≡ 3 → ⊥) → SameAt j m.tracers us
  same_at j h = both_off m.tracers t 2 g 3 i j (omega (arith, h))

  pub hand_done : work_done (put_hand m t g i) ≡ work_done m
  unfolding put_hand set_tracer with_tracers
  hand_done = tracers_done m us (same_at 4 (omega arith)) (same_at 5 (omega arith))

  module _ (sized : length m.tracers ≡ 64) (ht : t < 8) where
    hands_change : hands_owed m.heap us + hand_owed m.heap m.tracers t ≡ hands_owed m.heap m.tracers + (links_in m.heap g - i)
    unfolding hands_owed hand_owed
    hands_change =
        let a = both_first m.tracers t 2 g 3 i sized ht (omega arith) in
        let b = both_second m.tracers t 2 g 3 i sized ht (omega arith) in
        let here : hand_owed m.heap us t ≡ links_in m.heap g - i = rw (a, b) in
        omega (arith, sum_change (hand_owed m.heap m.tracers) (hand_owed m.heap us) 8 t ht (λ u h ne. rw (both_other m.tracers t 2 g 3 i u 2 ne (omega arith), both_other m.tracers t 2 g 3 i u 3 ne (omega arith))), here)

    pub hand-owed : work_owed (put_hand m t g i) + hand_owed m.heap m.tracers t ≡ work_owed m + (links_in m.heap g - i)
    unfolding work_owed put_hand set_tracer with_tracers
    hand-owed = omega (arith, packets_same m.tracers us m.heap m.packets (same_at 0 (omega arith)), held_same m.tracers us (same_at 4 (omega arith)), hands_change)

-- granule 0 has no links
pub no_links : {m : Image} → Lines m → links_in m.heap 0 ≡ 0
unfolding links_in
no_links o = o.heap_ok.blank 1 (omega arith)

-- after the reach the hand goes on to the next link, or is emptied
pub trace_hand_pays : (m : Image) → Lines m → (t : ℕ) → t < 8 → (hand m t ≡ 0 → ⊥) → Pays 1 m (trace_hand m t)
unfolding trace_hand links link word links_in hand next_link hand_owed
trace_hand_pays m o t ht nz =
    let h = in_hand_ok m o t ht nz in
    let r : Image = reach m t (link m (hand m t) (next_link m t)) in
    let d = reach_does m o t (link m (hand m t) (next_link m t)) ht h.2 in
    let z = d.lines.tracers_ok.sized in
    let before = reach_pays m o t (link m (hand m t) (next_link m t)) ht h.2 in
    let hs : r.heap ≡ m.heap = ap (λ x. x.1) d.rest_same in
    let was : hand_owed r.heap r.tracers t ≡ links m (hand m t) - next_link m t
    = rw (d.tracer_same t 2 (omega arith) (omega arith), d.tracer_same t 3 (omega arith) (omega arith), hs) in
    let same : links_in r.heap (hand m t) ≡ links m (hand m t) = rw hs in
    elim (bool_cases (ltb (suc (next_link m t)) (links m (hand m t)))) [
      | inl e ↦ rw e (record { pays = omega (arith, before.pays, hand_done r t (hand m t) (suc (next_link m t)), hand-owed r t (hand m t) (suc (next_link m t)) z ht, was, same, h.1) })
      | inr e ↦ rw e (record { pays = omega (arith, before.pays, hand_done r t 0 0, hand-owed r t 0 0 z ht, was, no_links d.lines, h.1) })
    ]
