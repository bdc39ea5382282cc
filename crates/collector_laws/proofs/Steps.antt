-- Kinds 9 to 12 and 15 by number, where their fields are in range: the wrong phase, nothing to do, and what is done.
use Rattle.collector_laws.specs.Outcome.{done_unless}
use Rattle.model.specs.Base.{put, zeros, some}
use Rattle.model.specs.Collect.{scan_player, begin_cycle, trace_line, trace_step, clean_line, clean_step}
use Rattle.model.specs.Image.{Image, image, image_of, scanned, running, dirty, card_count, with_cards, with_general, undirty_card}
use Rattle.model.specs.Records.{Step, Kind, kind_of, begin, scan, trace, clean, undirty}
use Rattle.model.specs.Rows.{rows_open}
use Rattle.model.specs.Mutate.{tightest}
use Rattle.model.specs.Steps.{bad_size, no_object, past_end, no_room, wrong_phase, nothing_to_do, act, step, steps_open}
use Rattle.request_laws.specs.Answer.{done, asked}
use Rattle.request_laws.specs.Passed.{Passed}
use Rattle.request_laws.proofs.Numbers.{number_10, number_11, number_0}
use Prim.Native.Nat.{ℕ, ◌<◌}
use mathlib.Core.Path.{◌≡◌, refl, sym, ap, ◌∙◌}
use mathlib.Core.Logic.{inl, inr}
use mathlib.Core.Bool.{Bool, true, false, not, ◌&&◌}
use mathlib.Core.List.{List, [], ◌∷◌}
use Rattle.model.proofs.Laws.{bool_cases, and_split}
use lib.Dec.{eqb}
use borrow.Author.Tests.{lt-leb, eq-eqb, ne_eqb, eqb-true}
use Rattle.model.specs.Steps as steps

-- where numbers 3 to 9 do not apply, and nothing stays to be asked but the phase
module _ {m : Image} {s : Step} {n : Kind} (q : Passed m s n) (o : no_object m s n ≡ false) (l : past_end m s n ≡ false) (z : bad_size s n ≡ false) (r : no_room m s n ≡ false) where
  in_phase : wrong_phase m s n ≡ false → (m' : Image) → act tightest m s n ≡ done 0 0 m' → done_unless (nothing_to_do m s n) m m' ≡ step tightest m s
  unfolding done_unless
  in_phase h m' f = elim (bool_cases (nothing_to_do m s n)) [ inl e ↦ rw e (number_11 q o l z r h e) | inr e ↦ rw e (sym f ∙ number_0 q o l z r h e) ]

-- ---- the fields are in range

module _ (m : Image) where
  begin_passed : Passed m (asked 9 0 0 0 0) begin
  unfolding asked kind_of rows_open steps_open some
  begin_passed = record { is_kind = refl; named = refl; on_desk = refl; none_owed = refl }

  module _ (t : ℕ) (h : t < 8) where
    scan_passed : (p : ℕ) → p < 16 → Passed m (asked 10 t p 0 0) scan
    unfolding asked kind_of rows_open steps_open some
    scan_passed p l = record { is_kind = refl; named = refl; on_desk = rw (lt-leb 8 t h, lt-leb 16 p l); none_owed = refl }

    trace_passed : Passed m (asked 11 t 0 0 0) trace
    unfolding asked kind_of rows_open steps_open some
    trace_passed = record { is_kind = refl; named = refl; on_desk = rw (lt-leb 8 t h); none_owed = refl }

    clean_passed : Passed m (asked 12 t 0 0 0) clean
    unfolding asked kind_of rows_open steps_open some
    clean_passed = record { is_kind = refl; named = refl; on_desk = rw (lt-leb 8 t h); none_owed = refl }

-- ---- the ways out of each kind

module _ (m : Image) (x : ℕ) (f : x ≡ running m) where
  pub begin_refused : x ≡ 1 → done 10 0 m ≡ step tightest m (asked 9 0 0 0 0)
  unfolding rows_open steps_open
  begin_refused e = number_10 (begin_passed m) refl refl refl refl (eq-eqb (running m) 1 (sym f ∙ e))

  pub begin_goes : (x ≡ 1 → ⊥) → (m₁ m₂ : Image) → m₁ ≡ with_cards m (zeros m.cards) → m₂ ≡ with_general m₁ (put m₁.general 0 1) → done 0 0 m₂ ≡ step tightest m (asked 9 0 0 0 0)
  unfolding rows_open steps_open done_unless begin_cycle with_cards
  begin_goes ne m₁ m₂ g₁ g₂ = rw (g₂, g₁) (in_phase (begin_passed m) refl refl refl refl (ne_eqb (running m) 1 (λ e. ne (f ∙ e))) (begin_cycle m) refl)

  module _ (t : ℕ) (h : t < 8) where
    module _ (p : ℕ) (l : p < 16) where
      pub scan_refused : x ≡ 0 → done 10 0 m ≡ step tightest m (asked 10 t p 0 0)
      unfolding rows_open steps_open
      scan_refused e = number_10 (scan_passed m t h p l) refl refl refl refl (eq-eqb (running m) 0 (sym f ∙ e))

      pub scan_goes : (x ≡ 0 → ⊥) → (d : steps.Done) → d ≡ done_unless (eqb (scanned m p) 1) m (scan_player m t p) → d ≡ step tightest m (asked 10 t p 0 0)
      unfolding asked rows_open steps_open
      scan_goes ne d q = q ∙ in_phase (scan_passed m t h p l) refl refl refl refl (ne_eqb (running m) 0 (λ e. ne (f ∙ e))) (scan_player m t p) refl

    pub trace_refused : x ≡ 0 → done 10 0 m ≡ step tightest m (asked 11 t 0 0 0)
    unfolding rows_open steps_open
    trace_refused e = number_10 (trace_passed m t h) refl refl refl refl (eq-eqb (running m) 0 (sym f ∙ e))

    pub trace_goes : (x ≡ 0 → ⊥) → (d : steps.Done) → d ≡ done_unless (eqb (trace_line m t) 0) m (trace_step m t) → d ≡ step tightest m (asked 11 t 0 0 0)
    unfolding asked rows_open steps_open
    trace_goes ne d q = q ∙ in_phase (trace_passed m t h) refl refl refl refl (ne_eqb (running m) 0 (λ e. ne (f ∙ e))) (trace_step m t) refl

    pub clean_refused : x ≡ 0 → done 10 0 m ≡ step tightest m (asked 12 t 0 0 0)
    unfolding rows_open steps_open
    clean_refused e = number_10 (clean_passed m t h) refl refl refl refl (eq-eqb (running m) 0 (sym f ∙ e))

    pub clean_goes : (x ≡ 0 → ⊥) → (d : steps.Done) → d ≡ done_unless (eqb (clean_line m t) 0) m (clean_step m t) → d ≡ step tightest m (asked 12 t 0 0 0)
    unfolding asked rows_open steps_open
    clean_goes ne d q = q ∙ in_phase (clean_passed m t h) refl refl refl refl (ne_eqb (running m) 0 (λ e. ne (f ∙ e))) (clean_step m t) refl

-- ---- undirty of card c, of k

module _ (w k : ℕ) (ws : List ℕ) (c : ℕ) (l : c < k) where
  undirty_passed : Passed (image_of w k ws) (asked 15 0 c 0 0) undirty
  unfolding asked kind_of rows_open steps_open some image_of image
  undirty_passed = record { is_kind = refl; named = refl; on_desk = rw (lt-leb k c l); none_owed = refl }

  module _ (x : ℕ) (f : x ≡ running (image_of w k ws)) where
    pub undirty_refused : x ≡ 0 → done 10 0 (image_of w k ws) ≡ step tightest (image_of w k ws) (asked 15 0 c 0 0)
    unfolding rows_open steps_open
    undirty_refused e = number_10 undirty_passed refl refl refl refl (eq-eqb (running (image_of w k ws)) 0 (sym f ∙ e))

    module _ (ne : x ≡ 0 → ⊥) where
      abbrev left : steps.Done
      left = done_unless (some (not (dirty (image_of w k ws) c) ∷ not (eqb (card_count (image_of w k ws) c) 0) ∷ [])) (image_of w k ws) (undirty_card (image_of w k ws) c)

      undirty_by : left ≡ step tightest (image_of w k ws) (asked 15 0 c 0 0)
      unfolding asked rows_open steps_open
      undirty_by = in_phase undirty_passed refl refl refl refl (ne_eqb (running (image_of w k ws)) 0 (λ e. ne (f ∙ e))) (undirty_card (image_of w k ws) c) refl

      -- what was found: whether the card is dirty, and its count
      module _ (b : Bool) (d : b ≡ dirty (image_of w k ws) c) (n : ℕ) (g : n ≡ card_count (image_of w k ws) c) where
        pub undirty_goes : (b && eqb n 0) ≡ true → (m : Image) → m ≡ undirty_card (image_of w k ws) c → done 0 0 m ≡ step tightest (image_of w k ws) (asked 15 0 c 0 0)
        unfolding done_unless some
        undirty_goes e m u =
            let a = and_split b (eqb n 0) e in
            let r : done 0 0 m ≡ left = rw (sym d ∙ a.0, sym g ∙ eqb-true n 0 a.1, u) in
            r ∙ undirty_by

        pub undirty_nothing : (b && eqb n 0) ≡ false → done 11 0 (image_of w k ws) ≡ step tightest (image_of w k ws) (asked 15 0 c 0 0)
        unfolding done_unless some
        undirty_nothing e =
            let r : done 11 0 (image_of w k ws) ≡ left = elim (bool_cases b) [
              | inl x ↦ rw (sym d ∙ x, ← g, sym (ap (λ y. y && eqb n 0) x) ∙ e)
              | inr x ↦ rw (sym d ∙ x)
            ] in
            r ∙ undirty_by
