-- Trace keeps the lines and Cover.
use mathlib.Core.Path.{◌≡◌, refl, sym, ap, ◌∙◌}
use mathlib.Core.Logic.{inl, inr}
use mathlib.Core.Bool.{Bool, true, false, not, cond}
use mathlib.Core.List.{[], ◌∷◌}
use Prim.Native.Nat.{ℕ, suc, ◌+◌, ◌*◌, ◌-◌, ◌/◌, ◌≤◌, ◌<◌}
use native.Mathlib.Decide.{ℕ_discrete}
use native.Mathlib.Omega.{arith}
use lib.Dec.{ltb, eqb}
use lib.ListN.{get_or}
use borrow.Author.Tests.{ltb-true, ltb-false, eqb-true, eqb-false, not-true, not-false}
use Rattle.model.specs.Base.{nth, first}
use Rattle.model.specs.Image.{Image, granules, word, marked, links, link, state, dirty, count, entry, input, output, hand, next_link, with_packets, with_tracers, set_tracer}
use Rattle.model.specs.Collect.{held, fullest, pop, put_hand, take_object, trace_hand, trace_input, trace_pool, trace_output, has_entries, trace_line, trace_step}
use Rattle.model.proofs.Laws.{false≢, bool_cases, every_use, best_ok}
use Rattle.theory.specs.Cover.{Cover, on_dirty, is_coming}
use Rattle.theory.specs.Lines.{Pair, NilOr, Start, InHand, Lines, none, one}
use Rattle.theory.proofs.lines.Covering.{CoverOn, Any, But, on, off, but_cover, hold_cover, Seen, hand_cover, take_object_cover, pop_cover}
use Rattle.theory.proofs.lines.Lines.{put_packets, put_tracers}
use Rattle.theory.proofs.lines.Packets.{pop_ok}
use Rattle.theory.proofs.steps.Reaching.{packet_unheld, few_packets, ReachedOnce, reached_cover, reach_does, StepStays, frame}
use Rattle.theory.proofs.lines.Sections.{hold_ok, hand-ok, swap_ok}

-- granule 0 is not marked
pub zero_unmarked : {m : Image} → Lines m → marked m 0 ≡ false
unfolding marked
zero_unmarked {m} o = elim (bool_cases (marked m 0)) [ inl e ↦ false≢ (sym o.heap_ok.unused ∙ (o.marks_ok.on_starts 0 e).1) | inr e ↦ e ]

-- ---- the hand

pub hand_lines : {m : Image} → Lines m → (t g i : ℕ) → t < 8 → Pair (InHand m) g i → Lines (put_hand m t g i)
unfolding put_hand set_tracer with_tracers
hand_lines o t g i ht ok = put_tracers o _ (hand-ok o.tracers_ok t ht g i ok)

pub take_object_lines : {m : Image} → Lines m → (t g : ℕ) → t < 8 → marked m g ≡ true → Lines (take_object m t g)
unfolding take_object links word marked
take_object_lines {m} o t g ht k =
    elim (bool_cases (eqb (links m g) 0)) [
      | inl e ↦ rw e o
      | inr e ↦ rw e (hand_lines o t g 0 ht (one (λ z. false≢ (sym (zero_unmarked o) ∙ rw z at k)) (k, omega (arith, eqb-false (links m g) 0 e))))
    ]

-- what the line on tracers says of a hand that holds an object
pub in_hand_ok : (m : Image) → Lines m → (t : ℕ) → t < 8 → (hand m t ≡ 0 → ⊥) → (marked m (hand m t) ≡ true) × (next_link m t < links m (hand m t)) × NilOr (Start m) (link m (hand m t) (next_link m t))
unfolding marked links link word hand next_link
in_hand_ok m o t ht nz =
    elim (o.tracers_ok.hands.pair t ht) [
      | none e f ↦ absurd (nz e)
      | one n (k, l) ↦ let s = o.marks_ok.on_starts (hand m t) k in (k, l, o.heap_ok.links-ok (hand m t) (next_link m t) s.0 s.1 l)
    ]

-- after the reach: the hand goes on to the next link, or is emptied
traced : (m r : Image) (t : ℕ) → t < 8 → Cover r → (hand m t ≡ 0 → ⊥) → marked m (hand m t) ≡ true → ReachedOnce m (link m (hand m t) (next_link m t)) r
    → StepStays m (cond (ltb (suc (next_link m t)) (links m (hand m t))) (put_hand r t (hand m t) (suc (next_link m t))) (put_hand r t 0 0))
unfolding put_hand set_tracer with_tracers links link word hand next_link granules marked
traced m r t ht cov nz k d =
    let hs : r.heap ≡ m.heap = ap (λ x. x.1) d.rest_same in
    let same2 : hand r t ≡ hand m t = d.tracer_same t 2 (omega arith) (omega arith) in
    let same3 : next_link r t ≡ next_link m t = d.tracer_same t 3 (omega arith) (omega arith) in
    -- the link that was reached
    let seen : (g j : ℕ) → hand r t ≡ g → j ≡ next_link m t → Seen r g j = λ g j q f. rw (hs, f, ← q, same2) d.now_marked in
    elim (bool_cases (ltb (suc (next_link m t)) (links m (hand m t)))) [
      | inl e ↦ rw e (record {
        lines = hand_lines d.lines t (hand m t) (suc (next_link m t)) ht (one nz (d.marks_up (hand m t) k, rw hs (ltb-true _ _ e)));
        cover = off _ (hand_cover Any r t (hand m t) (suc (next_link m t)) d.lines.tracers_ok.sized ht (on Any r cov)
            (λ g j q k l h. elim (ℕ_discrete j (next_link m t)) [ yes f ↦ inl (seen g j q f) | no n ↦ inr (sym same2 ∙ q, omega arith) ]));
        frame_same = ap (λ x. x.0) d.rest_same;
      })
      | inr e ↦ rw e (record {
        lines = hand_lines d.lines t 0 0 ht (none refl refl);
        cover = off _ (hand_cover Any r t 0 0 d.lines.tracers_ok.sized ht (on Any r cov)
            (λ g j q k l h. inl (seen g j q (omega (arith, rw (hs, ← q, same2) at l, ltb-false (suc (next_link m t)) (links m (hand m t)) e)))));
        frame_same = ap (λ x. x.0) d.rest_same;
      })
    ]

pub trace_hand_does : (m : Image) → Lines m → Cover m → (t : ℕ) → t < 8 → (hand m t ≡ 0 → ⊥) → StepStays m (trace_hand m t)
unfolding trace_hand
trace_hand_does m o cov t ht nz =
    let h = in_hand_ok m o t ht nz in
    let r = reach_does m o t (link m (hand m t) (next_link m t)) ht h.2 in
    traced m _ t ht (reached_cover r cov) nz h.0 r

pub take_object_frame : (m : Image) (t g : ℕ) → frame (take_object m t g) ≡ frame m
unfolding take_object put_hand set_tracer with_tracers
take_object_frame m t g = elim (bool_cases (eqb (links m g) 0)) [ inl e ↦ rw e | inr e ↦ rw e ]

pub fullest_ok : (m : Image) (q : ℕ) → fullest m ≡ suc q → (q < 32) × (held m q ≡ false) × (0 < count m q)
unfolding fullest
fullest_ok m q e = let u = best_ok _ _ 32 q e in (u.0, not-true _ (every_use _ u.1 0), ltb-true _ _ (every_use _ u.1 1))

-- ---- the input

-- the last entry is popped; it goes in hand unless its card is dirty or it has no links
popped_does : (m : Image) → Lines m → Cover m → (t p c : ℕ) → t < 8 → hand m t ≡ 0 → p < 32 → count m p ≡ suc c
    → StepStays m (cond (dirty m (entry m p c / 64)) (pop m p) (take_object (pop m p) t (entry m p c)))
unfolding pop with_packets dirty state marked hand count entry
popped_does m o cov t p c ht e hp hc =
    let g : ℕ = entry m p c in
    let o' : Lines (pop m p) = put_packets o _ (pop_ok o.packets_ok p c hp hc) in
    let but : CoverOn (But g) (pop m p) = pop_cover m o.packets_ok p c hp hc cov in
    elim (bool_cases (dirty m (g / 64))) [
      | inl q ↦ rw q (record { lines = o'; cover = but_cover (pop m p) g but (λ i l. is_coming (on_dirty q)); frame_same = refl })
      | inr q ↦ rw q (record {
        lines = take_object_lines o' t g ht (o.packets_ok.full p c g (record { is_packet = hp; below = omega arith; is_entry = refl }));
        cover = take_object_cover (pop m p) t g o'.tracers_ok.sized ht e (zero_unmarked o') but;
        frame_same = take_object_frame (pop m p) t g;
      })
    ]

pub trace_input_does : (m : Image) → Lines m → Cover m → (t : ℕ) → t < 8 → hand m t ≡ 0 → has_entries m (input m t) ≡ true → StepStays m (trace_input m t)
unfolding trace_input has_entries input
trace_input_does m o cov t ht e h =
    let p : ℕ = input m t - 1 in
    let i : 8 * t ≡ 8 * t + 0 = omega arith in
    let few : input m t ≤ 32 = rw i (o.tracers_ok.places.held t 0 ht (omega arith)) in
    popped_does m o cov t p (count m p - 1) ht e (omega arith) (omega (arith, ltb-true 0 (count m p) (every_use _ h 1)))

-- ---- a packet of the pool, and the own output

pool_does : (m : Image) → Lines m → Cover m → (t : ℕ) → t < 8 → StepStays m (set_tracer m t 0 (fullest m))
unfolding set_tracer with_tracers
pool_does m o cov t ht = record {
  lines = put_tracers o _ (hold_ok o.tracers_ok t ht 0 (fullest m) (omega arith) (few_packets _ (λ q e. (fullest_ok m q e).0))
      (λ u j p hu hj x y. absurd (packet_unheld m p (fullest_ok m p x).1 u j hu hj y)));
  cover = hold_cover m t 0 (fullest m) (omega arith) cov;
  frame_same = refl;
}

swap_does : (m : Image) → Lines m → Cover m → (t : ℕ) → t < 8 → StepStays m (set_tracer (set_tracer m t 0 (output m t)) t 1 0)
unfolding set_tracer with_tracers output
swap_does m o cov t ht = record {
  lines = put_tracers o _ (swap_ok o.tracers_ok t ht (nth m.tracers (8 * t + 1)) refl);
  cover = hold_cover (set_tracer m t 0 (output m t)) t 1 0 (omega arith) (hold_cover m t 0 (output m t) (omega arith) cov);
  frame_same = refl;
}

-- ---- trace

-- by the line that applies, the first of the four, or none
pub trace_cases : (P : ℕ → Image → Type 0) (m : Image) (t : ℕ) → P 0 m → ((hand m t ≡ 0 → ⊥) → P 1 (trace_hand m t))
    → (hand m t ≡ 0 → has_entries m (input m t) ≡ true → P 2 (trace_input m t))
    → (has_entries m (input m t) ≡ false → (fullest m ≡ 0 → ⊥) → P 3 (trace_pool m t))
    → (has_entries m (input m t) ≡ false → has_entries m (output m t) ≡ true → P 4 (trace_output m t))
    → P (trace_line m t) (trace_step m t)
unfolding trace_step trace_line first
trace_cases P m t idle by_hand by_input by_pool by_output = go (not (eqb (hand m t) 0)) refl (has_entries m (input m t)) refl (not (eqb (fullest m) 0)) refl (has_entries m (output m t)) refl
  where
    lines : Bool → Bool → Bool → Bool → ℕ
    lines a b c d = first 1 (a ∷ b ∷ c ∷ d ∷ [])

    go : (a : Bool) → not (eqb (hand m t) 0) ≡ a → (b : Bool) → has_entries m (input m t) ≡ b → (c : Bool) → not (eqb (fullest m) 0) ≡ c → (d : Bool) → has_entries m (output m t) ≡ d
        → P (lines a b c d) (get_or (m ∷ trace_hand m t ∷ trace_input m t ∷ trace_pool m t ∷ trace_output m t ∷ []) (lines a b c d) m)
    go true x b y c z d v = by_hand (eqb-false _ _ (not-true _ x))
    go false x true y c z d v = by_input (eqb-true _ _ (not-false _ x)) y
    go false x false y true z d v = by_pool y (eqb-false _ _ (not-true _ z))
    go false x false y false z true v = by_output y v
    go false x false y false z false v = idle

pub trace_does : (m : Image) → Lines m → Cover m → (t : ℕ) → t < 8 → StepStays m (trace_step m t)
unfolding trace_pool trace_output
trace_does m o cov t ht =
    trace_cases (λ x n. StepStays m n) m t (record { lines = o; cover = cov; frame_same = refl })
    (trace_hand_does m o cov t ht) (trace_input_does m o cov t ht) (λ e nz. pool_does m o cov t ht) (λ e h. swap_does m o cov t ht)
