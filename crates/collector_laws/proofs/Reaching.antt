-- Reach, each way out as the code finds it: the output packet taken, the object entered, the whole.
use mathlib.Core.Path.{◌≡◌, sym, ap, ◌∙◌}
use mathlib.Core.Logic.{inl, inr}
use mathlib.Core.Bool.{Bool, true, false}
use mathlib.Core.List.{List}
use Prim.Native.Nat.{ℕ, zero, suc, ◌+◌, ◌*◌, ◌-◌, ◌/◌, ◌%◌, ◌≤◌, ◌<◌}
use native.Mathlib.Omega.{arith}
use lib.Seq.{set-get_or}
use borrow.Author.Tests.{eq-eqb, ne_eqb}
use Rattle.model.specs.Base.{nth, put, some, bit}
use Rattle.model.specs.Image.{Image, image_of, image, marked, card_count, count, output, with_tracers, mark_object, dirty_card, set_tracer}
use Rattle.model.specs.Collect.{emptiest, append, no_output, take_output, enter, reach}
use Rattle.model.proofs.Laws.{best_ok}
use Rattle.model.proofs.Counts.{how_many_below}
use Rattle.theory.specs.Lines.{HeldOk, NilOr, Start, Lines}
use Rattle.theory.proofs.lines.Sections.{hold_ok}
use Rattle.theory.proofs.steps.Reaching.{mark_lines, take_lines, took}
use Rattle.tracers_laws.specs.Packet.{Tidy}
use Rattle.tracers_laws.specs.Tracer.{Tracer, tracer_at, output_goes_back, output_taken, with_tracer}
use Rattle.tracers_laws.proofs.Words.{written_again, output_back_written, output_taken_written}
use Rattle.collector_laws.specs.Pool.{lacks_space, Spare}

-- ---- the output packet

pub emptiest_few : (m : Image) (x : ℕ) → x ≡ emptiest m → x ≤ 32
unfolding emptiest
emptiest_few m zero e = omega arith
emptiest_few m (suc p) e = (best_ok _ _ 32 p (sym e)).0

module _ (m : Image) (t : ℕ) (o : Lines m) (h : t < 8) (x y : Tracer) (e : x ≡ tracer_at m t) (q : y ≡ output_goes_back x) (n₁ : Image) (r : n₁ ≡ with_tracer m t y) where
  gone_back : n₁ ≡ set_tracer m t 1 0
  gone_back = r ∙ rw (q, e) (output_back_written m t h o.tracers_ok.sized)

  pub back_places : HeldOk n₁.tracers
  unfolding set_tracer with_tracers
  back_places = rw gone_back (hold_ok o.tracers_ok t h 1 0 (omega arith) (omega arith) (λ u j p hu hj x y. absurd (omega arith))).places

  pub output_changed : (p : ℕ) → p ≡ emptiest n₁ → (z : Tracer) → z ≡ output_taken y p → (n₂ : Image) → n₂ ≡ with_tracer n₁ t z → n₂ ≡ set_tracer m t 1 (emptiest (set_tracer m t 1 0))
  unfolding output_goes_back output_taken
  output_changed p u z v n₂ w =
      let i : n₂ ≡ with_tracer m t (output_taken (tracer_at m t) p) = w ∙ rw (r, v, q, e) (written_again m t h o.tracers_ok.sized _ _) in
      i ∙ (output_taken_written m t h o.tracers_ok.sized p ∙ rw (← gone_back, u))

module _ (m : Image) (t x : ℕ) (f : x ≡ nth m.tracers (8 * t + 1)) (b : Bool) (e : b ≡ lacks_space m x) where
  same_space : lacks_space m (output m t) ≡ b
  unfolding output
  same_space = rw (← f) (sym e)

  pub take_new : b ≡ true → (n : Image) → n ≡ set_tracer m t 1 (emptiest (set_tracer m t 1 0)) → n ≡ take_output m t
  unfolding take_output no_output lacks_space
  take_new q n r = r ∙ rw (same_space, q)

  pub take_same : b ≡ false → m ≡ take_output m t
  unfolding take_output no_output lacks_space output set_tracer with_tracers put nth
  take_same q = rw (same_space, q) (ap (with_tracers m) (sym (set-get_or m.tracers (8 * t + 1) 0)))

-- ---- an object entered

module _ (m : Image) (t g x : ℕ) (f : x ≡ nth m.tracers (8 * t + 1)) where
  pub enter_dirty : x ≡ 0 → (n : Image) → n ≡ dirty_card m (g / 64) → n ≡ enter m t g
  unfolding enter output
  enter_dirty z n e = e ∙ rw (← f, z, enter)

  module _ (z : x ≡ 0 → ⊥) where
    is_suc : output m t ≡ suc (x - 1)
    unfolding output
    is_suc = omega (arith, f)

    pub enter_append : (n : Image) → n ≡ append m (x - 1) g → n ≡ enter m t g
    unfolding enter
    enter_append n e = e ∙ rw (is_suc, enter)

    pub enter_packet : Spare m t → x - 1 < 32
    enter_packet s = (s.space (x - 1) is_suc).0

    pub enter_space : Spare m t → count m (x - 1) < 30
    enter_space s = (s.space (x - 1) is_suc).1

    pub enter_tidy : Lines m → Spare m t → Tidy m (x - 1)
    unfolding count
    enter_tidy o s = record { gap = o.packets_ok.gap (x - 1) (enter_packet s); few = o.packets_ok.few (x - 1) (enter_packet s) }

-- ---- reach

pub start_in : (w k : ℕ) (ws : List ℕ) (g : ℕ) → NilOr (Start (image_of w k ws)) g → (g ≡ 0 → ⊥) → g < 64 * k
unfolding image_of image
start_in w k ws g (inl e) z = absurd (z e)
start_in w k ws g (inr s) z = s.0

module _ (m : Image) (g : ℕ) (o : Lines m) (s : NilOr (Start m) g) (z : g ≡ 0 → ⊥) (b : Bool) (e : b ≡ marked m g) (q : b ≡ false) where
  is-start : Start m g
  is-start = elim s [ inl e ↦ absurd (z e) | inr q ↦ q ]

  pub marked_lines : (n : Image) → n ≡ mark_object m g → Lines n
  marked_lines n f = rw f (mark_lines o g is-start (sym e ∙ q))

  -- an object that is not marked is not counted
  pub count_below : card_count m (g / 64) < 64
  unfolding card_count marked
  count_below =
      let here : 64 * (g / 64) + g % 64 ≡ g = omega arith in
      rw (o.marks_ok.counted (g / 64) (omega (arith, is-start.0)))
      (how_many_below (λ j. bit m.width m.marks (64 * (g / 64) + j)) 64 (g % 64) (omega arith) (ap (bit m.width m.marks) here ∙ (sym e ∙ q)))

module _ (m : Image) (t g : ℕ) where
  pub reach_nil : g ≡ 0 → m ≡ reach m t g
  unfolding reach some
  reach_nil e = rw (eq-eqb g 0 e, reach)

  module _ (z : g ≡ 0 → ⊥) where
    pub reach_marked : (b : Bool) → b ≡ marked m g → b ≡ true → m ≡ reach m t g
    unfolding reach some
    reach_marked b e q = rw (ne_eqb g 0 z, ← e, q, reach)

    module _ (b : Bool) (e : b ≡ marked m g) (q : b ≡ false) (n₁ : Image) (f : n₁ ≡ mark_object m g) where
      pub reach_new : (n₂ n₃ : Image) → n₂ ≡ take_output n₁ t → n₃ ≡ enter n₂ t g → n₃ ≡ reach m t g
      unfolding reach some
      reach_new n₂ n₃ h i = rw (ne_eqb g 0 z, ← e, q, reach, i, h, f)

      module _ (o : Lines m) (s : NilOr (Start m) g) (h : t < 8) (n₂ : Image) (i : n₂ ≡ take_output n₁ t) where
        pub taken_lines : Lines n₂
        taken_lines = rw i (take_lines (marked_lines m g o s z b e q n₁ f) t h)

        pub taken_spare : Spare n₂ t
        unfolding take_output set_tracer with_tracers count
        taken_spare = rw i (record { space = λ p u. took (marked_lines m g o s z b e q n₁ f) t p h u })
