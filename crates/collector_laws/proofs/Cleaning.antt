-- The lines of clean, each way out as the code finds it.
use mathlib.Core.Path.{◌≡◌, sym, ap, ◌∙◌}
use mathlib.Core.Bool.{true}
use mathlib.Core.List.{List}
use Prim.Native.Nat.{ℕ, zero, suc, ◌+◌, ◌*◌, ◌-◌, ◌≤◌, ◌<◌}
use native.Mathlib.Omega.{arith}
use lib.Dec.{eqb}
use borrow.Author.Tests.{eq-eqb, ne_eqb}
use Rattle.model.specs.Base.{first, lowest_of}
use Rattle.model.specs.Image.{Image, image_of, image, marked, hand, hand_card, set_state, with_cards}
use Rattle.model.specs.Collect.{trace_hand, take_object, next_marked, clean_to, clean_card, lowest_dirty, take_card, clean_line, clean_step}
use Rattle.model.proofs.Laws.{best_ok, bool_cases}
use Rattle.theory.specs.Lines.{Lines}
use Rattle.theory.proofs.steps.Cleaning.{card_in_hand}
use Rattle.request_laws.specs.Answer.{done}
use Rattle.image_laws.specs.Sized.{Sized}
use Rattle.tracers_laws.specs.Tracer.{Tracer, tracer_at, card_taken, granule_moves_on, card_let_go, with_tracer}
use Rattle.tracers_laws.proofs.Words.{tracers_long, card_taken_written, granule_written, let_go_written}
use Rattle.collector_laws.specs.Outcome.{done_unless}
use Rattle.collector_laws.proofs.Tracing.{read, hand-empty}
use mathlib.Core.Logic.{inl, inr}

-- ---- the card in hand

next_below : (m : Image) (d g : ℕ) → next_marked m d g ≤ g + d
unfolding next_marked
next_below m zero g = omega arith
next_below m (suc d) g = elim (bool_cases (marked m g)) [ inl e ↦ rw (e, next_marked) (omega arith) | inr e ↦ rw (e, next_marked) (omega (arith, next_below m d (suc g))) ]

module _ (w k : ℕ) (ws : List ℕ) (o : Lines (image_of w k ws)) (t : ℕ) (h : t < 8) (x : Tracer) (e : x ≡ tracer_at (image_of w k ws) t) (z : 0 < x.card) where
  in_range : (x.card ≤ k) × (64 * x.card ≤ x.granule + 64) × (x.granule ≤ 64 * x.card)
  unfolding image_of image tracer_at
  in_range = rw e (let c = card_in_hand (image_of w k ws) o t h (λ q. omega (arith, read (image_of w k ws) t x e)) in (c.0, omega (arith, c.2), c.3))

  module _ (c : ℕ) (a : c ≡ x.card) where
    pub card_in : c ≤ k
    card_in = rw a in_range.0

    pub card_from : (n : ℕ) → n ≡ x.granule → 64 * c ≤ n + 64
    card_from n b = rw (a, b) in_range.1

  module _ (g : ℕ) (f : g ≡ next_marked (image_of w k ws) (64 * x.card - x.granule) x.granule) where
    pub next_in : g ≤ 64 * k
    next_in = omega (arith, in_range, next_below (image_of w k ws) (64 * x.card - x.granule) x.granule)

    cleaned : clean_to (image_of w k ws) t g ≡ clean_card (image_of w k ws) t
    unfolding clean_card
    cleaned = rw (← (read (image_of w k ws) t x e).its_card, ← (read (image_of w k ws) t x e).its_granule, ← f)

    pub card-let-go : g ≡ 0 → (y : Tracer) (n : Image) → y ≡ card_let_go x → n ≡ with_tracer (image_of w k ws) t y → n ≡ clean_card (image_of w k ws) t
    unfolding clean_to
    card-let-go q y n r s = s ∙ (rw (r, e) (let_go_written (image_of w k ws) t h o.tracers_ok.sized) ∙ rw q at cleaned)

    pub card_object : (a : ℕ) → g ≡ suc a → (y : Tracer) (n n' : Image) → y ≡ granule_moves_on x a → n ≡ with_tracer (image_of w k ws) t y → n' ≡ take_object n t a → n' ≡ clean_card (image_of w k ws) t
    unfolding clean_to
    card_object a p y n n' r s i = i ∙ (rw (s, r, e, granule_written (image_of w k ws) t h o.tracers_ok.sized a) (ap (clean_to (image_of w k ws) t) (sym p)) ∙ cleaned)

-- ---- a card taken

pub dirty_in : (w k : ℕ) (ws : List ℕ) (c : ℕ) → suc c ≡ lowest_dirty (image_of w k ws) → c < k
unfolding lowest_dirty lowest_of image_of image
dirty_in w k ws c e = let r = (best_ok _ _ k c (sym e)).0 in omega arith

pub card-taken : (w k : ℕ) (ws : List ℕ) → Sized w k ws → (t c : ℕ) → t < 8 → (n₁ n₂ : Image) (x y : Tracer) → n₁ ≡ set_state (image_of w k ws) c 2 → x ≡ tracer_at n₁ t → y ≡ card_taken x c → n₂ ≡ with_tracer n₁ t y → n₂ ≡ take_card (image_of w k ws) t c
unfolding take_card set_state with_cards
card-taken w k ws z t c h n₁ n₂ x y f e q r = r ∙ rw (q, e, f) (card_taken_written (set_state (image_of w k ws) c 2) t h (tracers_long z) c)

-- ---- the lines

module _ (m : Image) (t : ℕ) (x : Tracer) (e : x ≡ tracer_at m t) where
  pub clean_hand_line : (x.hand ≡ 0 → ⊥) → (n : Image) → n ≡ trace_hand m t → done 0 0 n ≡ done_unless (eqb (clean_line m t) 0) m (clean_step m t)
  unfolding done_unless clean_step clean_line first
  clean_hand_line z n f = rw (ne_eqb (hand m t) 0 (λ q. z ((read m t x e).its_hand ∙ q)), f)

  module _ (z : x.hand ≡ 0) where
    pub clean_card_line : (x.card ≡ 0 → ⊥) → (n : Image) → n ≡ clean_card m t → done 0 0 n ≡ done_unless (eqb (clean_line m t) 0) m (clean_step m t)
    unfolding done_unless clean_step clean_line first
    clean_card_line u n f = rw (hand-empty m t x e z, ne_eqb (hand_card m t) 0 (λ q. u ((read m t x e).its_card ∙ q)), f)

    module _ (u : x.card ≡ 0) (c : ℕ) (g : c ≡ lowest_dirty m) where
      no-card : eqb (hand_card m t) 0 ≡ true
      no-card = eq-eqb (hand_card m t) 0 (sym (read m t x e).its_card ∙ u)

      pub clean_dirty_line : (c ≡ 0 → ⊥) → (n : Image) → n ≡ take_card m t (c - 1) → done 0 0 n ≡ done_unless (eqb (clean_line m t) 0) m (clean_step m t)
      unfolding done_unless clean_step clean_line first
      clean_dirty_line w n f = rw (hand-empty m t x e z, no-card, ← g, ne_eqb c 0 w, f)

      pub clean_no_line : c ≡ 0 → done 11 0 m ≡ done_unless (eqb (clean_line m t) 0) m (clean_step m t)
      unfolding done_unless clean_line first
      clean_no_line w = rw (hand-empty m t x e z, no-card, ← g, eq-eqb c 0 w)
