-- What the marking needs of an image: a sound one has it.
use mathlib.Core.Path.{◌≡◌, refl, subst}
use mathlib.Core.Logic.{⊎_elim}
use mathlib.Core.Bool.{true}
use mathlib.Core.List.{List}
use Prim.Native.Nat.{ℕ, ◌+◌, ◌*◌, ◌<◌, ◌≤◌}
use native.Mathlib.Omega.{arith}
use Rattle.model.specs.Base.{nth}
use Rattle.model.specs.Image.{Image, granules, is_start, marked, link, image_of}
use Rattle.theory.specs.Lines.{none, one, Lines, Sound}
use Rattle.theory.proofs.heap.Walk.{object-at}
use Rattle.theory.proofs.heap.Facts.{heap_filled_of, link_value, start_at}
use Rattle.finish_marking_laws.specs.Follow.{object_bit, World}
use Rattle.image_laws.specs.Digits.{mark_bit, start_bit}
use Rattle.image_laws.proofs.Digits.{digit_two, digit_le, digit_on, digit_off, on_digit}
use Rattle.image_laws.proofs.Lengths.{cards_image}

pub record Fit (k : ℕ) (m : Image) : Type 0 where
  pub number : m.k ≡ k
  pub world : World k m
  pub zeroth : mark_bit m 0 ≡ 0
  pub marks : (g : ℕ) → mark_bit m g ≡ 1 → (g < 64 * k) × (start_bit m g ≡ 1)
  pub regs : (i : ℕ) → i < 256 → (nth m.regs i ≡ 0 → ⊥) → (nth m.regs i < 64 * k) × (start_bit m (nth m.regs i) ≡ 1)
  pub counts : (p : ℕ) → p < 32 → nth m.packets (32 * p) ≤ 30
  pub entries : (p e : ℕ) → p < 32 → e < nth m.packets (32 * p) → (nth m.packets (32 * p + 2 + e) < 64 * k) × (mark_bit m (nth m.packets (32 * p + 2 + e)) ≡ 1)
  pub past : (p e : ℕ) → p < 32 → nth m.packets (32 * p) ≤ e → e < 30 → nth m.packets (32 * p + 2 + e) ≡ 0
  pub hands : (t : ℕ) → t < 8 → (nth m.tracers (8 * t + 2) ≡ 0 → ⊥) → (nth m.tracers (8 * t + 2) < 64 * k) × (mark_bit m (nth m.tracers (8 * t + 2)) ≡ 1)
  pub hand_cards : (t : ℕ) → t < 8 → nth m.tracers (8 * t + 4) ≤ k

module _ (m : Image) (o : Lines m) where
  mark_start : (g : ℕ) → mark_bit m g ≡ 1 → (g < 64 * m.k) × (start_bit m g ≡ 1)
  unfolding marked is_start
  mark_start g e = let r = o.marks_ok.on_starts g (on_digit _ e) in (r.0, digit_on r.1)

  object_start : (g : ℕ) → object_bit m g ≡ 1 → is_start m g ≡ true
  object_start g e = ⊎_elim (λ z. on_digit _ (omega arith)) (λ z. on_digit _ (mark_start g z).1) (digit_two (marked m g))

  pub lines_fit : Fit m.k m
  unfolding is_start marked granules
  lines_fit = record {
    number = refl;
    world = record {
      inside = λ g e. let t = object-at m (heap_filled_of o) g (object_start g e) in omega (arith, t.links-in, t.in_heap);
      target = λ g i e l n.
          let v = link_value o g i (start_at o g (object_start g e)) l in
          ⊎_elim (λ z. absurd (n z)) (λ r. (r.0, omega (arith, digit_on r.1, digit_le (marked m (link m g i))))) v;
    };
    zeroth = ⊎_elim (λ z. z) (λ z. absurd (omega (arith, mark_start 0 z, digit_off o.heap_ok.unused))) (digit_two (marked m 0));
    marks = mark_start;
    regs = λ i h n. ⊎_elim (λ z. absurd (n z)) (λ r. (r.0, digit_on r.1)) (o.regs_ok.values i);
    counts = o.packets_ok.few;
    entries = λ p e hp he. let z = digit_on (o.packets_ok.full p e _ (record { is_packet = hp; below = he; is_entry = refl })) in ((mark_start _ z).0, z);
    past = λ p e hp c he. o.packets_ok.past p e hp he c;
    hands = λ t h n. elim (o.tracers_ok.hands.pair t h) [ none z _ ↦ absurd (n z) | one _ r ↦ ((mark_start _ (digit_on r.0)).0, digit_on r.0) ];
    hand_cards = λ t h. elim (o.tracers_ok.hand_cards.pair t h) [ none z _ ↦ omega arith | one _ r ↦ r.0 ];
  }

pub sound_fit : (w k : ℕ) (ws : List ℕ) → Sound (image_of w k ws) → Fit k (image_of w k ws)
sound_fit w k ws s = subst (λ (j : ℕ). Fit j (image_of w k ws)) (cards_image w k ws) (lines_fit (image_of w k ws) s.lines)
