-- A stretch that passes is made up of whole objects, and no other passes.
use mathlib.Core.Path.{◌≡◌, refl, sym, subst, ◌∙◌}
use mathlib.Core.Logic.{◌↔◌}
use mathlib.Core.Bool.{Bool, true, false}
use Prim.Native.Nat.{ℕ, zero, suc, ◌+◌, ◌≤◌}
use native.Mathlib.Omega.{arith}
use lib.Dec.{leb, eqb}
use borrow.Author.Tests.{le-leb, lt-leb, eqb-true, eq-eqb}
use Rattle.model.specs.Image.{Image, is_start, size}
use Rattle.model.specs.Report.{whole_objects}
use Rattle.model.proofs.Laws.{false≢}
use Rattle.theory.specs.Report.{Objects, no_more, one_more}

-- one step of the walk, by its two tests
pub whole_step : (m : Image) (f g e : ℕ) (b s : Bool) → leb e g ≡ b → is_start m g ≡ s
    → whole_objects m (suc f) g e ≡ elim b [ true ↦ eqb g e | false ↦ elim s [ true ↦ whole_objects m f (g + size m g) e | false ↦ false ] ]
unfolding whole_objects
whole_step m f g e b s p q =
    subst (λ (x : Bool). whole_objects m (suc f) g e ≡ elim x [ true ↦ eqb g e | false ↦ elim s [ true ↦ whole_objects m f (g + size m g) e | false ↦ false ] ]) p
    (subst (λ (x : Bool). whole_objects m (suc f) g e ≡ elim (leb e g) [ true ↦ eqb g e | false ↦ elim x [ true ↦ whole_objects m f (g + size m g) e | false ↦ false ] ]) q refl)

whole_use : (m : Image) (f g e : ℕ) → whole_objects m f g e ≡ true → Objects m g e
unfolding whole_objects
whole_use m zero g e w = no_more (eqb-true g e w)
whole_use m (suc f) g e w = go (whole_use m f (g + size m g) e) (leb e g) (is_start m g) refl refl
  where
    go : (whole_objects m f (g + size m g) e ≡ true → Objects m (g + size m g) e) → (b s : Bool) → leb e g ≡ b → is_start m g ≡ s → Objects m g e
    go ih true s p q = no_more (eqb-true g e (sym (whole_step m f g e true s p q) ∙ w))
    go ih false true p q = one_more q (ih (sym (whole_step m f g e false true p q) ∙ w))
    go ih false false p q = false≢ (sym (whole_step m f g e false false p q) ∙ w)

module _ (m : Image) (some : (g : ℕ) → is_start m g ≡ true → 1 ≤ size m g) where
  rises : {g e : ℕ} → Objects m g e → g ≤ e
  rises (no_more q) = omega arith
  rises (one_more s o) = omega (arith, rises o)

  whole_make : {g e : ℕ} → Objects m g e → (f : ℕ) → e ≤ g + f → whole_objects m f g e ≡ true
  unfolding whole_objects
  whole_make {g} {e} (no_more q) zero h = eq-eqb g e q
  whole_make {g} {e} (no_more q) (suc f) h = whole_step m f g e true (is_start m g) (le-leb e g (omega arith)) refl ∙ eq-eqb g e q
  whole_make {g} {e} (one_more s o) zero h = absurd (omega (arith, rises o, some g s))
  whole_make {g} {e} (one_more s o) (suc f) h = whole_step m f g e false true (lt-leb e g (omega (arith, rises o, some g s))) s ∙ whole_make o f (omega (arith, some g s))

  -- with the bound that the verdict takes, the stretch's length
  pub whole_is : (a n : ℕ) → (whole_objects m n a (a + n) ≡ true) ↔ Objects m a (a + n)
  whole_is a n = (whole_use m n a (a + n), λ o. whole_make o n (omega arith))
