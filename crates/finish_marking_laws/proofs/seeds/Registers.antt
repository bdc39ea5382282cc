-- What registers hold becomes pending: one register by its ways out, and one after the other.
use mathlib.Core.Path.{◌≡◌, refl, sym, subst, ◌∙◌}
use mathlib.Core.Logic.{inl, inr, ⊎_elim}
use mathlib.Core.Bool.{Bool, true, false}
use mathlib.Core.List.{List}
use Prim.Native.Nat.{ℕ, ◌+◌, ◌*◌, ◌<◌}
use native.Mathlib.Omega.{arith}
use native.Mathlib.Decide.{ℕ_discrete}
use lib.ListN.{length}
use Rattle.model.specs.Base.{nth}
use Rattle.model.specs.Image.{Image, with_starts, with_marks, marked, set_mark, image_of}
use Rattle.finish_marking_laws.specs.Follow.{Pending, pend}
use Rattle.finish_marking_laws.specs.Seeds.{Upto, Refers, HeldAt, Opened}
use Rattle.finish_marking_laws.specs.Marking.{Shape}
use Rattle.finish_marking_laws.proofs.follow.Bits.{Pended, pended}
use Rattle.finish_marking_laws.proofs.seeds.Bared.{same_section}
use Rattle.image_laws.specs.Bits.{clear_start}
use Rattle.image_laws.specs.Digits.{mark_bit}
use Rattle.image_laws.specs.Sized.{Sized}
use Rattle.image_laws.proofs.Digits.{digit_two, digit_on, digit_off}
use Rattle.image_laws.proofs.Loops.{Looped, looped_none, looped_more}

opened_none : {m : Image} {N : ℕ → Type 0} → ((g : ℕ) → N g → ⊥) → Opened m m N
opened_none n = record { heap = refl; cards = refl; rest = refl; has = λ g q. absurd (n g q); only = λ g. inr (refl, refl) }

module _ (m : Image) (i a : ℕ) (ea : a ≡ nth m.regs i) where
  pub hold_nil : a ≡ 0 → Opened m m (HeldAt m.regs (mark_bit m) i)
  hold_nil z = opened_none (λ g q. q.is.some (sym ea ∙ z))

  module _ (n : a ≡ 0 → ⊥) (r : Bool) (er : r ≡ marked m a) where
    pub hold_marked : r ≡ true → Opened m m (HeldAt m.regs (mark_bit m) i)
    hold_marked e =
        let o : mark_bit m a ≡ 1 = digit_on (sym er ∙ e) in
        opened_none (λ g q. let s : g ≡ a = q.is.eq ∙ sym ea in absurd (let z : mark_bit m a ≡ 0 = rw s at q.bare in omega arith))

    pub hold_new : (k : ℕ) → r ≡ false → Shape k m → a < 64 * k → (m1 m2 : Image) → m1 ≡ set_mark m a → m2 ≡ clear_start m1 a → Opened m m2 (HeldAt m.regs (mark_bit m) i)
    unfolding pend clear_start set_mark with_starts with_marks
    hold_new k e s h m1 m2 e1 e2 =
        let pends : m2 ≡ pend m a = e2 ∙ rw e1 in
        let p : Pended m (pend m a) a = pended k m a s h in
        rw pends (record {
          heap = refl;
          cards = refl;
          rest = refl;
          has = λ g q. let w : g ≡ a = q.is.eq ∙ sym ea in rw w (record { is_marked = p.mark; bare = p.start });
          only = λ g. elim (ℕ_discrete g a) [
            | yes w ↦ inl (record { is = record { eq = w ∙ ea; some = λ z. n (ea ∙ z) }; bare = rw w (digit_off (sym er ∙ e)) })
            | no w ↦ inr (p.marks g w, p.starts g w)
          ];
        })

-- ---- one register after the other

module _ {m m1 m2 : Image} {i : ℕ} (a : Opened m m1 (Upto (HeldAt m.regs (mark_bit m)) i)) (b : Opened m1 m2 (HeldAt m1.regs (mark_bit m1) i)) where
  abbrev P : ℕ → ℕ → Type 0
  P = HeldAt m.regs (mark_bit m)

  keep : (g : ℕ) → Pending m1 g → Pending m2 g
  keep g q = ⊎_elim (λ r. b.has g r) (λ e. record { is_marked = e.0 ∙ q.is_marked; bare = e.1 ∙ q.bare }) (b.only g)

  -- newly held now: it was not marked at first
  first : (g : ℕ) → HeldAt m1.regs (mark_bit m1) i g → Upto P (i + 1) g
  first g q = ⊎_elim (λ r. absurd (omega (arith, (a.has g r).is_marked, q.bare)))
      (λ e. record { place = i; below = omega arith; here = record { is = subst (λ (l : List ℕ). Refers (nth l i) g) (same_section a.rest 0) q.is; bare = sym e.0 ∙ q.bare } })
      (a.only g)

  pub opened_more : Opened m m2 (Upto P (i + 1))
  opened_more = record {
    heap = b.heap ∙ a.heap;
    cards = b.cards ∙ a.cards;
    rest = b.rest ∙ a.rest;
    has = λ g q. elim (ℕ_discrete q.place i) [
      | no n ↦ keep g (a.has g (record { place = q.place; below = omega (arith, q.below); here = q.here }))
      | yes e ↦ ⊎_elim
          (λ z. b.has g (record { is = subst (λ (l : List ℕ). Refers (nth l i) g) (sym (same_section a.rest 0)) (rw e at q.here.is); bare = z }))
          (λ o. ⊎_elim (λ r. keep g (a.has g r)) (λ s. absurd (omega (arith, s.0, q.here.bare))) (a.only g))
          (digit_two (marked m1 g))
    ];
    only = λ g. elim (b.only g) [
      | inl r ↦ inl (first g r)
      | inr s ↦ ⊎_elim (λ r. inl (record { place = r.place; below = omega (arith, r.below); here = r.here })) (λ e. inr (s.0 ∙ e.0, s.1 ∙ e.1)) (a.only g)
    ];
  }

abbrev pub Holding : (w k : ℕ) → List ℕ → List ℕ → ℕ → Type 0
Holding w k im₀ im i = Looped w k 256 (λ m i. Opened (image_of w k im₀) m (Upto (HeldAt (image_of w k im₀).regs (mark_bit (image_of w k im₀))) i)) im₀ im i

pub holding_none : {w k : ℕ} {im : List ℕ} → Sized w k im → Holding w k im im 0
holding_none z = looped_none z (opened_none (λ g q. absurd (omega (arith, q.below))))

pub holding_more : {w k : ℕ} {im₀ im im' : List ℕ} {i : ℕ} → Holding w k im₀ im i → i < 256 → length im' ≡ length im → Opened (image_of w k im) (image_of w k im') (HeldAt (image_of w k im).regs (mark_bit (image_of w k im)) i) → Holding w k im₀ im' (i + 1)
holding_more t l e b = looped_more t l e (opened_more t.state b)
