-- What a visit leaves: the invariant, more marks, and no more to do.
use mathlib.Core.Path.{◌≡◌, refl, sym, ◌∙◌}
use mathlib.Core.Logic.{◌⊎◌, inl, inr, ⊎_elim}
use Prim.Native.Nat.{ℕ, ◌*◌, ◌/◌, ◌<◌, ◌≤◌}
use native.Mathlib.Omega.{arith}
use native.Mathlib.Decide.{ℕ_discrete}
use Rattle.model.specs.Base.{set_bit}
use Rattle.model.specs.Image.{Image, is_start, with_starts, with_marks, with_cards, set_mark, set_state, marked}
use Rattle.model.proofs.Laws.{length_put, nth_put_same, nth_put_other}
use Rattle.finish_marking_laws.specs.Follow.{Pending, Headed, pend, visited, Reach, object_bit}
use Rattle.finish_marking_laws.specs.Marking.{Shape, Grown, Marking, weight, on_list, work_left}
use Rattle.finish_marking_laws.proofs.follow.Bits.{Pended, pended}
use Rattle.finish_marking_laws.proofs.follow.Grown.{pend_grow, grown_pend, grown_cards}
use Rattle.finish_marking_laws.proofs.follow.Measure.{weights_pend, cards_change}
use Rattle.finish_marking_laws.proofs.follow.Visits.{Visit, visit_cases, past, on, new}
use Rattle.finish_marking_laws.proofs.follow.Worklist.{later_low, push}
use Rattle.image_laws.specs.Bits.{clear_bit, clear_start}
use Rattle.image_laws.specs.Digits.{mark_bit}

pub record Visited (k : ℕ) (m₀ m : Image) (N : ℕ → Type 0) (h a : ℕ) (p : Headed) : Type 0 where
  pub marking : Marking k m₀ p.image N h p.head
  pub now_marked : (a ≡ 0 → ⊥) → mark_bit p.image a ≡ 1
  pub grow : (g : ℕ) → mark_bit m g ≤ mark_bit p.image g
  pub pending : (g : ℕ) → Pending m g → Pending p.image g
  pub less : work_left k p.image ≤ work_left k m

-- what is pending after, where a became so
pend_pending : {m m' : Image} {a : ℕ} → Pended m m' a → (g : ℕ) → Pending m' g → (g ≡ a) ⊎ Pending m g
pend_pending {a = a} p g q = elim (ℕ_discrete g a) [
  | yes e ↦ inl e
  | no n ↦ inr (record { is_marked = sym (p.marks g n) ∙ q.is_marked; bare = sym (p.starts g n) ∙ q.bare })
]

pend_keeps : {m m' : Image} {a : ℕ} → Pended m m' a → (g : ℕ) → Pending m g → Pending m' g
pend_keeps {a = a} p g q = elim (ℕ_discrete g a) [
  | yes e ↦ rw e (record { is_marked = p.mark; bare = p.start })
  | no n ↦ record { is_marked = p.marks g n ∙ q.is_marked; bare = p.starts g n ∙ q.bare }
]

module _ {k : ℕ} {m₀ m : Image} {N : ℕ → Type 0} {h l : ℕ} (a : ℕ) (w : Marking k m₀ m N h l) (f : (a ≡ 0 → ⊥) → Reach m₀ a × (a < 64 * k) × (object_bit m a ≡ 1)) where
  module _ (n : a ≡ 0 → ⊥) (u : mark_bit m a ≡ 0) where
    bits : Pended m (pend m a) a
    bits = pended k m a w.grown.shape (f n).1

    grown : Grown k m₀ (pend m a)
    unfolding pend clear_start set_mark with_starts with_marks clear_bit set_bit
    grown =
        let s = w.grown.shape in
        let s' : Shape k (pend m a) = record { starts = λ g h. rw length_put (s.starts g h); marks = λ g h. rw length_put (s.marks g h); cards = s.cards } in
        grown_pend w.grown s' refl refl bits (f n).2 u (f n).0

  visit_any : {p : Headed} → Visit m l a p → Visited k m₀ m N h a p
  unfolding work_left pend clear_start set_mark with_starts with_marks set_state with_cards marked is_start weight on_list
  visit_any (past e) = record { marking = w; now_marked = λ n. ⊎_elim (λ z. absurd (n z)) (λ z. z) e; grow = λ g. omega arith; pending = λ g q. q; less = omega arith }
  visit_any (on n u o) =
      let p : Pended m (pend m a) a = bits n u in
      record {
        marking = record {
          world = w.world;
          grown = grown n u;
          listed = record { list = w.listed.list; holds = λ g q. ⊎_elim (λ e. inl (rw e o)) (λ r. w.listed.holds g r) (pend_pending p g q) };
        };
        now_marked = λ _. p.mark;
        grow = pend_grow p;
        pending = pend_keeps p;
        less = omega (arith, weights_pend (64 * k) (f n).1 p u);
      }
  visit_any (new n u z) =
      let p : Pended m (pend m a) a = bits n u in
      let hc : a / 64 < k = omega (arith, (f n).1) in
      record {
        marking = record {
          world = w.world;
          grown = grown_cards k m₀ (pend m a) (a / 64) l (grown n u);
          listed = record {
            list = push w.listed.list (a / 64) (omega (arith, w.grown.shape.cards)) z;
            holds = λ g q. elim (ℕ_discrete (g / 64) (a / 64)) [
              | yes e ↦ inl (rw (e, nth_put_same m.cards (a / 64) l (omega (arith, w.grown.shape.cards))) (later_low w.listed.list))
              | no d ↦
                  let q' : Pending (pend m a) g = record { is_marked = q.is_marked; bare = q.bare } in
                  rw nth_put_other (⊎_elim (λ e. absurd (d (rw e))) (λ r. w.listed.holds g r) (pend_pending p g q'))
            ];
          };
        };
        now_marked = λ _. p.mark;
        grow = pend_grow p;
        pending = λ g q. let o = pend_keeps p g q in record { is_marked = o.is_marked; bare = o.bare };
        less = omega (arith, cards_change k (pend m a) (a / 64) l hc w.grown.shape.cards, later_low w.listed.list, weights_pend (64 * k) (f n).1 p u);
      }

  pub visit_keeps : Visited k m₀ m N h a (visited m l a)
  visit_keeps = visit_any (visit_cases m l a)
