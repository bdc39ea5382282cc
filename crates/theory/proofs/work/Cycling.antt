-- From a begin on, while no finish is accepted: the cycle runs, and no card is in hand twice.
use mathlib.Core.Path.{◌≡◌, refl, sym, ap, ◌∙◌}
use mathlib.Core.Logic.{inl, inr}
use mathlib.Core.Bool.{Bool, true, false, cond}
use mathlib.Core.List.{List}
use Prim.Native.Nat.{ℕ, suc, ◌+◌, ◌*◌, ◌-◌, ◌/◌, ◌<◌}
use native.Mathlib.Decide.{ℕ_discrete}
use native.Mathlib.Omega.{arith}
use lib.Dec.{ltb, eqb}
use lib.ListN.{take, drop}
use Rattle.model.specs.Base.{nth}
use Rattle.model.specs.Image.{Image, links, dirty, state, entry, count, input, output, hand, next_link, hand_card, next_granule, link, with_packets, with_players, with_tracers, with_cards, set_state, set_tracer, set_scanned}
use Rattle.model.specs.Collect.{pop, reach, scan_player, put_hand, take_object, trace_hand, trace_input, trace_pool, trace_output, trace_step, put_card, next_marked, clean_to, clean_card, lowest_dirty, take_card, clean_step}
use Rattle.model.proofs.Laws.{nth_put_other}
use Rattle.theory.specs.Lines.{NilOr, Start, Lines}
use Rattle.theory.specs.Work.{CardsOnce}
use Rattle.theory.proofs.steps.Reaching.{reach_does, reach_all_by}
use Rattle.theory.proofs.steps.Tracing.{in_hand_ok, trace_cases}
use Rattle.theory.proofs.steps.Cleaning.{card_in_hand, dirty-state, clean_cases}
use Rattle.theory.proofs.steps.Beginning.{scan_values}
use Rattle.theory.proofs.steps.Steps.{zero_or_suc}
use Rattle.theory.proofs.work.Tracers.{SameAt, both, both_off, both_other, both_first}

-- ---- scan and trace: the cards in hand are as they were

pub record SameCards (m n : Image) : Type 0 where
  pub same : SameAt 4 m.tracers n.tracers

cards_refl : (m : Image) → SameCards m m
cards_refl m = record { same = λ t. refl }

cards_then : {l m n : Image} → SameCards l m → SameCards m n → SameCards l n
cards_then x y = record { same = λ t. y.same t ∙ x.same t }

cards_cond : {m x y : Image} (b : Bool) → SameCards m x → SameCards m y → SameCards m (cond b x y)
cards_cond true p q = p
cards_cond false p q = q

pub once_same : {m n : Image} → SameCards m n → CardsOnce m.tracers → CardsOnce n.tracers
once_same k o = record { once = λ t u c ht hu x y. o.once t u c ht hu (sym (k.same t) ∙ x) (sym (k.same u) ∙ y) }

reach_cards : (m : Image) → Lines m → (t a : ℕ) → t < 8 → NilOr (Start m) a → SameCards m (reach m t a)
reach_cards m o t a ht ok = record { same = λ u. (reach_does m o t a ht ok).tracer_same u 4 (omega arith) (omega arith) }

pub scan_cards : (m : Image) → Lines m → (t p : ℕ) → t < 8 → SameCards m (scan_player m t p)
unfolding scan_player set_scanned with_players
scan_cards m o t p ht = record { same = (reach_all_by SameCards (λ n q. cards_refl n) (λ x y z. cards_then) t ht (λ n q a. reach_cards n q t a ht) m o (take 16 (drop (16 * p) m.regs)) (scan_values m o p)).same }

hand-cards : (m : Image) (t g i : ℕ) → SameCards m (put_hand m t g i)
unfolding put_hand set_tracer with_tracers
hand-cards m t g i = record { same = both_off m.tracers t 2 g 3 i 4 (omega arith) }

take_cards : (m : Image) (t g : ℕ) → SameCards m (take_object m t g)
unfolding take_object
take_cards m t g = cards_cond (eqb (links m g) 0) (cards_refl m) (hand-cards m t g 0)

trace_hand_cards : (m : Image) → Lines m → (t : ℕ) → t < 8 → (hand m t ≡ 0 → ⊥) → SameCards m (trace_hand m t)
unfolding trace_hand
trace_hand_cards m o t ht nz =
    let r = reach_cards m o t (link m (hand m t) (next_link m t)) ht (in_hand_ok m o t ht nz).2 in
    cards_cond (ltb (suc (next_link m t)) (links m (hand m t))) (cards_then r (hand-cards _ t _ _)) (cards_then r (hand-cards _ t 0 0))

trace_input_cards : (m : Image) (t : ℕ) → SameCards m (trace_input m t)
unfolding trace_input
trace_input_cards m t =
    let p : ℕ = input m t - 1 in
    let popped : SameCards m (pop m p) = unfold pop with_packets in record { same = λ u. refl } in
    cards_cond (dirty m (entry m p (count m p - 1) / 64)) popped (cards_then popped (take_cards _ t _))

pub trace_cards : (m : Image) → Lines m → (t : ℕ) → t < 8 → SameCards m (trace_step m t)
unfolding trace_pool trace_output set_tracer with_tracers
trace_cards m o t ht =
    trace_cases (λ x n. SameCards m n) m t (cards_refl m) (trace_hand_cards m o t ht) (λ z e. trace_input_cards m t)
    (λ e nz. record { same = λ u. nth_put_other _ _ _ _ (omega arith) }) (λ e h. record { same = both_off m.tracers t 0 (output m t) 1 0 4 (omega arith) })

-- ---- clean

-- tracer t gets card c, which no other has
card_once : (m : Image) → Lines m → (t : ℕ) → t < 8 → (c n : ℕ) → CardsOnce m.tracers → ((u d : ℕ) → u < 8 → c ≡ suc d → nth m.tracers (8 * u + 4) ≡ suc d → u ≡ t)
    → CardsOnce (put_card m t c n).tracers
unfolding put_card set_tracer with_tracers
card_once m o t ht c n one alone =
    let us : List ℕ = both m.tracers t 4 c 5 n in
    let old : (u d : ℕ) → (u ≡ t → ⊥) → nth us (8 * u + 4) ≡ suc d → nth m.tracers (8 * u + 4) ≡ suc d
    = λ u d ne x. sym (both_other m.tracers t 4 c 5 n u 4 ne (omega arith)) ∙ x in
    let here : (u d : ℕ) → u ≡ t → nth us (8 * u + 4) ≡ suc d → c ≡ suc d
    = λ u d e x. sym (both_first m.tracers t 4 c 5 n o.tracers_ok.sized ht (omega arith)) ∙ (ap (λ q. nth us (8 * q + 4)) (sym e) ∙ x) in
    record {
      once = λ u v d hu hv x y. elim (ℕ_discrete u t) [
        | yes e ↦ elim (ℕ_discrete v t) [ yes f ↦ e ∙ sym f | no f ↦ absurd (f (alone v d hv (here u d e x) (old v d f y))) ]
        | no e ↦ elim (ℕ_discrete v t) [ yes f ↦ absurd (e (alone u d hu (here v d f y) (old u d e x))) | no f ↦ one.once u v d hu hv (old u d e x) (old v d f y) ]
      ];
    }

clean_card_once : (m : Image) → Lines m → (t : ℕ) → t < 8 → CardsOnce m.tracers → CardsOnce (clean_card m t).tracers
unfolding clean_card clean_to hand_card
clean_card_once m o t ht one =
    elim (zero_or_suc (next_marked m (64 * hand_card m t - next_granule m t) (next_granule m t))) [
      | inl q ↦ rw q (card_once m o t ht 0 0 one (λ u d hu e x. absurd (omega arith)))
      | inr (g, q) ↦ rw q (once_same (take_cards _ t g) (card_once m o t ht (hand_card m t) (suc g) one (λ u d hu e x. one.once u t d hu ht x e)))
    ]

-- a card in hand is in state 2 or 3
take_card_once : (m : Image) → Lines m → (t c : ℕ) → t < 8 → state m c ≡ 1 → CardsOnce m.tracers → CardsOnce (take_card m t c).tracers
unfolding take_card put_card set_tracer with_tracers set_state with_cards hand_card next_granule state
take_card_once m o t c ht s one =
    card_once m o t ht (suc c) (64 * c) one (λ u d hu e x.
    let h = card_in_hand m o u hu (λ z. omega arith) in
    let k : hand_card m u - 1 ≡ c = omega arith in
    absurd (omega (arith, rw k at h.1)))

pub clean_once : (m : Image) → Lines m → (t : ℕ) → t < 8 → CardsOnce m.tracers → CardsOnce (clean_step m t).tracers
clean_once m o t ht one =
    clean_cases (λ x n. CardsOnce n.tracers) m t one (λ nz. once_same (trace_hand_cards m o t ht nz) one) (λ z nz. clean_card_once m o t ht one)
    (λ e nz. take_card_once m o t (lowest_dirty m - 1) ht (dirty-state m nz) one)
