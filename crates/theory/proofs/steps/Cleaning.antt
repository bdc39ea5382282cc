-- Clean keeps the lines and Cover.
use mathlib.Core.Path.{◌≡◌, refl, sym, ◌∙◌}
use mathlib.Core.Logic.{inl, inr}
use mathlib.Core.Bool.{Bool, true, false, not}
use mathlib.Core.List.{[], ◌∷◌}
use Prim.Native.Nat.{ℕ, zero, suc, ◌+◌, ◌*◌, ◌-◌, ◌≤◌, ◌<◌}
use native.Mathlib.Decide.{ℕ_discrete, dec_lt}
use native.Mathlib.Nat.{suc_inj}
use native.Mathlib.Omega.{arith}
use lib.Dec.{eqb}
use lib.ListN.{get_or}
use borrow.Author.Tests.{eqb-true, eqb-false, not-true, not-false}
use Rattle.model.specs.Base.{nth, put, lowest_of, first}
use Rattle.model.specs.Image.{Image, marked, state, hand, hand_card, next_granule, with_cards, with_tracers, set_state, set_tracer}
use Rattle.model.specs.Collect.{trace_hand, put_card, next_marked, clean_to, clean_card, lowest_dirty, take_card, clean_line, clean_step}
use Rattle.model.proofs.Laws.{false≢, bool_cases, nth_put_same, nth_put_other, best_ok}
use Rattle.theory.specs.Cover.{Cover}
use Rattle.theory.specs.Lines.{Pair, CardInHand, Lines, none, one}
use Rattle.theory.proofs.lines.Covering.{Any, But, on, off, take_object_cover, card_cover, take_card_cover}
use Rattle.theory.proofs.lines.Lines.{put_tracers, put_cards}
use Rattle.theory.proofs.steps.Reaching.{StepStays}
use Rattle.theory.proofs.steps.Steps.{zero_or_suc}
use Rattle.theory.proofs.lines.Sections.{card-ok, state_ok, taken_on}
use Rattle.theory.proofs.steps.Tracing.{zero_unmarked, take_object_lines, trace_hand_does, take_object_frame}

-- ---- the card in hand

card_lines : {m : Image} → Lines m → (t c n : ℕ) → t < 8 → Pair (CardInHand m) c n → Lines (put_card m t c n)
unfolding put_card set_tracer with_tracers
card_lines o t c n ht ok = put_tracers o _ (card-ok o.tracers_ok t ht c n ok)

pub card_in_hand : (m : Image) → Lines m → (t : ℕ) → t < 8 → (hand_card m t ≡ 0 → ⊥) → CardInHand m (hand_card m t) (next_granule m t)
unfolding hand_card next_granule
card_in_hand m o t ht nz = elim (o.tracers_ok.hand_cards.pair t ht) [ none e f ↦ absurd (nz e) | one n d ↦ d ]

-- ---- the next marked object on it

next_none : (m : Image) (d g : ℕ) → next_marked m d g ≡ 0 → (h : ℕ) → g ≤ h → h < g + d → marked m h ≡ false
unfolding next_marked
next_none m zero g e h l l' = absurd (omega arith)
next_none m (suc d) g e h l l' =
    elim (bool_cases (marked m g)) [
      | inl k ↦ absurd (omega (arith, rw (k, next_marked) at e))
      | inr k ↦ elim (ℕ_discrete h g) [ yes s ↦ rw s k | no s ↦ next_none m d (suc g) (rw (k, next_marked) at e) h (omega arith) (omega arith) ]
    ]

pub record NextMark (m : Image) (d g h : ℕ) : Type 0 where
  pub is_marked : marked m h ≡ true
  pub from : g ≤ h
  pub under : h < g + d
  pub none_between : (x : ℕ) → g ≤ x → x < h → marked m x ≡ false

pub next_some : (m : Image) (d g h : ℕ) → next_marked m d g ≡ suc h → NextMark m d g h
unfolding next_marked
next_some m zero g h e = absurd (omega arith)
next_some m (suc d) g h e =
    elim (bool_cases (marked m g)) [
      | inl k ↦ let s : g ≡ h = suc_inj (rw (k, next_marked) at e) in
          record { is_marked = rw (← s) k; from = omega arith; under = omega arith; none_between = λ x a b. absurd (omega arith) }
      | inr k ↦ let r = next_some m d (suc g) h (rw (k, next_marked) at e) in record {
        is_marked = r.is_marked;
        from = omega (arith, r.from);
        under = omega (arith, r.under);
        none_between = λ x a b. elim (ℕ_discrete x g) [ yes s ↦ rw s k | no s ↦ r.none_between x (omega arith) b ];
      }
    ]

pub clean_card_does : (m : Image) → Lines m → Cover m → (t : ℕ) → t < 8 → hand m t ≡ 0 → (hand_card m t ≡ 0 → ⊥) → StepStays m (clean_card m t)
unfolding clean_card clean_to put_card set_tracer with_tracers marked hand
clean_card_does m o cov t ht e nz =
    let d = card_in_hand m o t ht nz in
    let hl = o.tracers_ok.sized in
    elim (zero_or_suc (next_marked m (64 * hand_card m t - next_granule m t) (next_granule m t))) [
      | inl q ↦ rw q (record {
        lines = card_lines o t 0 0 ht (none refl refl);
        cover = off _ (card_cover Any m t 0 0 hl ht (on Any m cov) (λ g x k a b. false≢ (sym (next_none m _ _ q g b (omega arith)) ∙ k)));
        frame_same = refl;
      })
      | inr (g, q) ↦ rw q (
          let r : NextMark m (64 * hand_card m t - next_granule m t) (next_granule m t) g = next_some m _ _ g q in
          let o' = card_lines o t (hand_card m t) (suc g) ht (one nz (d.0, d.1, omega arith, omega arith)) in
          record {
            lines = take_object_lines o' t g ht r.is_marked;
            cover = take_object_cover (put_card m t (hand_card m t) (suc g)) t g o'.tracers_ok.sized ht
                (nth_put_other (put m.tracers (8 * t + 4) (hand_card m t)) (8 * t + 5) (8 * t + 2) (suc g) (omega arith)
                ∙ (nth_put_other m.tracers (8 * t + 4) (8 * t + 2) (hand_card m t) (omega arith) ∙ e)) (zero_unmarked o')
                (card_cover (But g) m t (hand_card m t) (suc g) hl ht (on (But g) m cov)
                (λ h x k a b. (a, elim (dec_lt h g) [ yes l ↦ false≢ (sym (r.none_between h b l) ∙ k) | no l ↦ omega arith ])));
            frame_same = take_object_frame _ t g;
          })
    ]

take_card_does : (m : Image) → Lines m → Cover m → (t c : ℕ) → t < 8 → hand_card m t ≡ 0 → c < m.k → StepStays m (take_card m t c)
unfolding take_card put_card set_state set_tracer with_tracers with_cards
take_card_does m o cov t c ht e hc =
    let o' = put_cards o _ (state_ok o.cards_ok c 2 hc (omega arith)) (λ d. taken_on o.cards_ok c 2 d hc (λ x. omega arith)) in
    let p : suc c - 1 ≡ c = omega arith in
    let now : nth (put m.cards c 2) c ≡ 2 = nth_put_same m.cards c 2 (rw o.cards_ok.sized hc) in
    record {
      lines = card_lines o' t (suc c) (64 * c) ht (one (omega arith) (hc, rw (p, now) (omega arith), omega arith, omega arith));
      cover = take_card_cover m t c o.tracers_ok.sized ht e cov;
      frame_same = refl;
    }

-- the card that line 3 takes
pub dirty_below : (m : Image) → (lowest_dirty m ≡ 0 → ⊥) → lowest_dirty m - 1 < m.k
unfolding lowest_dirty lowest_of
dirty_below m nz = let e : lowest_dirty m ≡ suc (lowest_dirty m - 1) = omega arith in (best_ok _ _ m.k (lowest_dirty m - 1) e).0

pub dirty-state : (m : Image) → (lowest_dirty m ≡ 0 → ⊥) → state m (lowest_dirty m - 1) ≡ 1
unfolding lowest_dirty lowest_of
dirty-state m nz = let e : lowest_dirty m ≡ suc (lowest_dirty m - 1) = omega arith in eqb-true _ _ (best_ok _ _ m.k (lowest_dirty m - 1) e).1

-- by the line that applies, the first of the three, or none
pub clean_cases : (P : ℕ → Image → Type 0) (m : Image) (t : ℕ) → P 0 m → ((hand m t ≡ 0 → ⊥) → P 1 (trace_hand m t))
    → (hand m t ≡ 0 → (hand_card m t ≡ 0 → ⊥) → P 2 (clean_card m t))
    → (hand_card m t ≡ 0 → (lowest_dirty m ≡ 0 → ⊥) → P 3 (take_card m t (lowest_dirty m - 1)))
    → P (clean_line m t) (clean_step m t)
unfolding clean_step clean_line first
clean_cases P m t idle by_hand by_card by_dirty = go (not (eqb (hand m t) 0)) refl (not (eqb (hand_card m t) 0)) refl (not (eqb (lowest_dirty m) 0)) refl
  where
    lines : Bool → Bool → Bool → ℕ
    lines a b c = first 1 (a ∷ b ∷ c ∷ [])

    go : (a : Bool) → not (eqb (hand m t) 0) ≡ a → (b : Bool) → not (eqb (hand_card m t) 0) ≡ b → (c : Bool) → not (eqb (lowest_dirty m) 0) ≡ c
        → P (lines a b c) (get_or (m ∷ trace_hand m t ∷ clean_card m t ∷ take_card m t (lowest_dirty m - 1) ∷ []) (lines a b c) m)
    go true x b y c z = by_hand (eqb-false _ _ (not-true _ x))
    go false x true y c z = by_card (eqb-true _ _ (not-false _ x)) (eqb-false _ _ (not-true _ y))
    go false x false y true z = by_dirty (eqb-true _ _ (not-false _ y)) (eqb-false _ _ (not-true _ z))
    go false x false y false z = idle

pub clean_does : (m : Image) → Lines m → Cover m → (t : ℕ) → t < 8 → StepStays m (clean_step m t)
clean_does m o cov t ht =
    clean_cases (λ x n. StepStays m n) m t (record { lines = o; cover = cov; frame_same = refl })
    (trace_hand_does m o cov t ht) (clean_card_does m o cov t ht) (λ e nz. take_card_does m o cov t (lowest_dirty m - 1) ht e (dirty_below m nz))
