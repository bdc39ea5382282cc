-- The lines of trace, each way out as the code finds it.
use mathlib.Core.Path.{◌≡◌, refl, sym, ◌∙◌}
use mathlib.Core.Bool.{Bool, true, false}
use mathlib.Core.List.{List}
use Prim.Native.Nat.{ℕ, zero, suc, ◌*◌, ◌-◌, ◌/◌, ◌≤◌, ◌<◌}
use native.Mathlib.Omega.{arith}
use lib.Dec.{eqb}
use borrow.Author.Tests.{eq-eqb, ne_eqb, eqb-false, ltb-true, not-true}
use Rattle.model.specs.Base.{first}
use Rattle.model.specs.Image.{Image, image_of, image, state, dirty, count, entry, input, output, hand, hand_card, next_granule, with_packets}
use Rattle.model.specs.Collect.{fullest, pop, take_object, trace_hand, trace_input, trace_pool, trace_output, has_entries, trace_line, trace_step}
use Rattle.model.proofs.Laws.{best_ok, every_use}
use Rattle.theory.specs.Lines.{Lines}
use Rattle.request_laws.specs.Answer.{done}
use Rattle.tracers_laws.specs.Packet.{Tidy, LastOff}
use Rattle.tracers_laws.specs.Tracer.{Tracer, tracer_at, packet_becomes_input, output_becomes_input, with_tracer}
use Rattle.tracers_laws.proofs.Words.{input_written, output_input_written}
use Rattle.collector_laws.specs.Outcome.{done_unless}
use Rattle.collector_laws.proofs.Pool.{input_few, output_few}

-- ---- the state that was read

pub record TracerRead (m : Image) (t : ℕ) (x : Tracer) : Type 0 where
  pub its_input : x.input ≡ input m t
  pub its_output : x.output ≡ output m t
  pub its_hand : x.hand ≡ hand m t
  pub its_card : x.card ≡ hand_card m t
  pub its_granule : x.granule ≡ next_granule m t

module _ (m : Image) (t : ℕ) (x : Tracer) (e : x ≡ tracer_at m t) where
  pub read : TracerRead m t x
  unfolding tracer_at
  read = rw e (record { its_input = refl; its_output = refl; its_hand = refl; its_card = refl; its_granule = refl })

  pub hand_held : (x.hand ≡ 0 → ⊥) → 0 < hand m t
  hand_held z = omega (arith, read)

  pub hand-empty : x.hand ≡ 0 → eqb (hand m t) 0 ≡ true
  hand-empty z = eq-eqb (hand m t) 0 (sym read.its_hand ∙ z)

  module _ (o : Lines m) (h : t < 8) where
    pub held_input : (v : ℕ) → v ≡ x.input → v ≤ 32
    unfolding input
    held_input v q = input_few m t o.tracers_ok.places h v (q ∙ read.its_input)

    pub held_output : (v : ℕ) → v ≡ x.output → v ≤ 32
    unfolding output
    held_output v q = output_few m t o.tracers_ok.places h v (q ∙ read.its_output)

-- ---- packets

pub fullest_few : (m : Image) (x : ℕ) → x ≡ fullest m → x ≤ 32
unfolding fullest
fullest_few m zero e = omega arith
fullest_few m (suc p) e = (best_ok _ _ 32 p (sym e)).0

module _ (m : Image) (x : ℕ) (b : Bool) (e : b ≡ has_entries m x) (q : b ≡ true) where
  pub entries_packet : 0 < x
  unfolding has_entries
  entries_packet = omega (arith, eqb-false x 0 (not-true _ (every_use _ (sym e ∙ q) 0)))

  pub entries_count : 0 < count m (x - 1)
  unfolding has_entries
  entries_count = ltb-true 0 (count m (x - 1)) (every_use _ (sym e ∙ q) 1)

-- the input packet, by its number + 1
module _ (m : Image) (t : ℕ) (x : Tracer) (e : x ≡ tracer_at m t) (v : ℕ) (f : v ≡ x.input) (b : Bool) (g : b ≡ has_entries m v) (q : b ≡ true) where
  pub input_packet : Lines m → t < 8 → v - 1 < 32
  input_packet o h = omega (arith, held_input m t x e o h v f, entries_packet m v b g q)

  pub input_is : input m t ≡ suc (v - 1)
  input_is = omega (arith, read m t x e, entries_packet m v b g q)

pub tidy : (m : Image) (p : ℕ) → Lines m → p < 32 → Tidy m p
unfolding count
tidy m p o h = record { gap = o.packets_ok.gap p h; few = o.packets_ok.few p h }

module _ (w k : ℕ) (ws : List ℕ) (p g : ℕ) (n : Image) (r : LastOff (image_of w k ws) p g n) where
  pub popped_in : Lines (image_of w k ws) → p < 32 → 0 < count (image_of w k ws) p → g < 64 * k
  unfolding count entry image_of image
  popped_in o h l =
      (o.marks_ok.on_starts g (o.packets_ok.full p (count (image_of w k ws) p - 1) g (record { is_packet = h; below = omega arith; is_entry = sym r.is_last }))).0

  pub popped_card : Lines (image_of w k ws) → p < 32 → 0 < count (image_of w k ws) p → g / 64 < k
  popped_card o h l = omega (arith, popped_in o h l)

module _ (m : Image) (t p g : ℕ) (n : Image) (i : input m t ≡ suc p) (r : LastOff m p g n) (b : Bool) (e : b ≡ dirty n (g / 64)) where
  same_dirty : dirty m (g / 64) ≡ b
  unfolding dirty state pop with_packets
  same_dirty = sym (e ∙ rw r.is_left)

  is_packet : input m t - 1 ≡ p
  is_packet = omega arith

  pub popped_dirty : b ≡ true → n ≡ trace_input m t
  unfolding trace_input
  popped_dirty q = r.is_left ∙ rw (is_packet, ← r.is_last, same_dirty, q)

  pub popped_taken : b ≡ false → (n' : Image) → n' ≡ take_object n t g → n' ≡ trace_input m t
  unfolding trace_input
  popped_taken q n' f = f ∙ rw (is_packet, ← r.is_last, same_dirty, q, r.is_left)

-- ---- the lines

module _ (m : Image) (t : ℕ) (x : Tracer) (e : x ≡ tracer_at m t) where
  pub trace_hand_line : (x.hand ≡ 0 → ⊥) → (n : Image) → n ≡ trace_hand m t → done 0 0 n ≡ done_unless (eqb (trace_line m t) 0) m (trace_step m t)
  unfolding done_unless trace_step trace_line first
  trace_hand_line z n f = rw (ne_eqb (hand m t) 0 (λ q. z ((read m t x e).its_hand ∙ q)), f)

  module _ (z : x.hand ≡ 0) where
    pub trace_input_line : (b : Bool) → b ≡ has_entries m x.input → b ≡ true → (n : Image) → n ≡ trace_input m t → done 0 0 n ≡ done_unless (eqb (trace_line m t) 0) m (trace_step m t)
    unfolding done_unless trace_step trace_line first
    trace_input_line b g q n f = rw (hand-empty m t x e z, ← (read m t x e).its_input, ← g, q, f)

    module _ (i : has_entries m x.input ≡ false) (f : ℕ) (g : f ≡ fullest m) where
      no_input : has_entries m (input m t) ≡ false
      no_input = rw (← (read m t x e).its_input) i

      pub trace_pool_line : (f ≡ 0 → ⊥) → Lines m → t < 8 → (y : Tracer) (n : Image) → y ≡ packet_becomes_input x f → n ≡ with_tracer m t y → done 0 0 n ≡ done_unless (eqb (trace_line m t) 0) m (trace_step m t)
      unfolding done_unless trace_step trace_line first trace_pool
      trace_pool_line u o h y n q r = rw (hand-empty m t x e z, no_input, ← g, ne_eqb f 0 u, r, q, e, input_written m t h o.tracers_ok.sized f)

      module _ (u : f ≡ 0) (b : Bool) (w : b ≡ has_entries m x.output) where
        pub trace_output_line : b ≡ true → Lines m → t < 8 → (y : Tracer) (n : Image) → y ≡ output_becomes_input x → n ≡ with_tracer m t y → done 0 0 n ≡ done_unless (eqb (trace_line m t) 0) m (trace_step m t)
        unfolding done_unless trace_step trace_line first trace_output tracer_at
        trace_output_line s o h y n q r =
            rw (hand-empty m t x e z, no_input, ← g, eq-eqb f 0 u, ← (read m t x e).its_output, ← w, s, r, q, e, output_input_written m t h o.tracers_ok.sized)

        pub trace_no_line : b ≡ false → done 11 0 m ≡ done_unless (eqb (trace_line m t) 0) m (trace_step m t)
        unfolding done_unless trace_line first
        trace_no_line s = rw (hand-empty m t x e z, no_input, ← g, eq-eqb f 0 u, ← (read m t x e).its_output, ← w, s)
