-- Sets of objects lose their start bits, one after the other.
use mathlib.Core.Path.{◌≡◌, refl, ap, ◌∙◌, subst}
use mathlib.Core.Logic.{◌⊎◌, inl, inr, ⊎_elim}
use Prim.Native.Nat.{ℕ, ◌+◌, ◌<◌}
use native.Mathlib.Omega.{arith}
use native.Mathlib.Decide.{ℕ_discrete}
use lib.ListN.{length, get_or}
use Rattle.model.specs.Image.{Image, image_of}
use mathlib.Core.List.{List, []}
use Rattle.finish_marking_laws.specs.Seeds.{Upto, EnteredAt, HandAt, DirtyAt, Bared}
use Rattle.image_laws.specs.Digits.{mark_bit}
use Rattle.image_laws.specs.Sized.{Sized}
use Rattle.image_laws.proofs.Loops.{Looped, looped_none, looped_more}

-- ---- none, one, and more

pub bared_none : {m : Image} {N : ℕ → Type 0} → ((g : ℕ) → N g → ⊥) → Bared m m N
bared_none n = record { heap = refl; marks = refl; cards = refl; rest = refl; has = λ g q. absurd (n g q); only = λ g. inr refl }

module _ {m m1 m2 : Image} {N N1 N2 : ℕ → Type 0} (a : Bared m m1 N) (b : Bared m1 m2 N1) (split : (g : ℕ) → N2 g → N g ⊎ N1 g) (left : (g : ℕ) → N g → N2 g) (right : (g : ℕ) → N1 g → N2 g) where
  pub bared_both : Bared m m2 N2
  bared_both = record {
    heap = b.heap ∙ a.heap;
    marks = b.marks ∙ a.marks;
    cards = b.cards ∙ a.cards;
    rest = b.rest ∙ a.rest;
    has = λ g q. elim (b.only g) [ inl r ↦ b.has g r | inr r ↦ ⊎_elim (λ p. r ∙ a.has g p) (λ p. b.has g p) (split g q) ];
    only = λ g. elim (b.only g) [ inl r ↦ inl (right g r) | inr r ↦ ⊎_elim (λ p. inl (left g p)) (λ p. inr (r ∙ p)) (a.only g) ];
  }

-- the places one after the other
upto_more : {m m1 m2 : Image} {P : ℕ → ℕ → Type 0} {i : ℕ} → Bared m m1 (Upto P i) → Bared m1 m2 (P i) → Bared m m2 (Upto P (i + 1))
upto_more {P = P} {i} a b = bared_both {N2 = Upto P (i + 1)} a b
    (λ g q. elim (ℕ_discrete q.place i) [ yes e ↦ inr (rw e at q.here) | no n ↦ inl (record { place = q.place; below = omega (arith, q.below); here = q.here }) ])
    (λ g q. record { place = q.place; below = omega (arith, q.below); here = q.here })
    (λ g q. record { place = i; below = omega arith; here = q })

-- the same set said otherwise
pub bared_as : {m m' : Image} {N N' : ℕ → Type 0} → ((g : ℕ) → N g → N' g) → ((g : ℕ) → N' g → N g) → Bared m m' N → Bared m m' N'
bared_as f h b = bared_both (bared_none {N = λ g. ⊥} (λ g z. z)) b (λ g q. inr (h g q)) (λ g z. absurd z) f

-- the same set, of equal lists and equal marks
pub bared_along : {m m' : Image} (F : List ℕ → (ℕ → ℕ) → ℕ → Type 0) {x y : List ℕ} {u v : ℕ → ℕ} → x ≡ y → u ≡ v → Bared m m' (F x u) → Bared m m' (F y v)
bared_along {m} {m'} F {y = y} {u} e d b = subst (λ (l : ℕ → ℕ). Bared m m' (F y l)) d (subst (λ (l : List ℕ). Bared m m' (F l u)) e b)

-- ---- sections that stay

-- regs, packets, tracers, players, general and counts are sections 0 to 5 of `untouched`
pub same_section : {x y : List (List ℕ)} → x ≡ y → (i : ℕ) → get_or x i [] ≡ get_or y i []
same_section e i = ap (λ (l : List (List ℕ)). get_or l i []) e

-- a set of the image as it is, as a set of the first one
module _ {m m1 m2 : Image} {N : ℕ → Type 0} (a : Bared m m1 N) where
  pub entry_as : {i : ℕ} → Bared m1 m2 (EnteredAt m1.packets i) → Bared m1 m2 (EnteredAt m.packets i)
  entry_as {i} b = subst (λ (l : List ℕ). Bared m1 m2 (EnteredAt l i)) (same_section a.rest 1) b

  pub hand_as : {t : ℕ} → Bared m1 m2 (HandAt m1.tracers (mark_bit m1) t) → Bared m1 m2 (HandAt m.tracers (mark_bit m) t)
  hand_as {t} b = bared_along (λ l marks. HandAt l marks t) (same_section a.rest 2) a.marks b

  pub dirty_as : {c : ℕ} → Bared m1 m2 (DirtyAt m1.cards (mark_bit m1) c) → Bared m1 m2 (DirtyAt m.cards (mark_bit m) c)
  dirty_as {c} b = bared_along (λ l marks. DirtyAt l marks c) a.cards a.marks b

-- ---- the loops that open

abbrev pub Opening : (w k n : ℕ) → (ℕ → ℕ → Type 0) → List ℕ → List ℕ → ℕ → Type 0
Opening w k n P im₀ im i = Looped w k n (λ m i. Bared (image_of w k im₀) m (Upto P i)) im₀ im i

pub opening_none : {w k n : ℕ} {P : ℕ → ℕ → Type 0} {im : List ℕ} → Sized w k im → Opening w k n P im im 0
opening_none z = looped_none z (bared_none (λ g q. absurd (omega (arith, q.below))))

pub opening_more : {w k n : ℕ} {P : ℕ → ℕ → Type 0} {im₀ im im' : List ℕ} {i : ℕ} → Opening w k n P im₀ im i → i < n → length im' ≡ length im → Bared (image_of w k im) (image_of w k im') (P i) → Opening w k n P im₀ im' (i + 1)
opening_more t l e b = looped_more t l e (upto_more t.state b)
