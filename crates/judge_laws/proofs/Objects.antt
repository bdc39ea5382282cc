-- Cover of one object, in the order in which the code asks.
use mathlib.Core.Path.{◌≡◌, sym, ◌∙◌}
use mathlib.Core.Bool.{Bool, true, false, ◌&&◌, ◌||◌, and-true, or-false, or_assoc}
use mathlib.Core.List.{[], ◌∷◌}
use Prim.Native.Nat.{ℕ, suc, ◌+◌, ◌*◌, ◌/◌, ◌≤◌, ◌<◌}
use native.Mathlib.Numerals.{add-one}
use native.Mathlib.Omega.{arith}
use lib.Dec.{leb, eqb}
use borrow.Author.Tests.{eq-eqb, ne_eqb}
use Rattle.model.specs.Base.{nth, all, any, every, some, implies}
use Rattle.model.specs.Image.{word, marked, link, dirty, hand, next_link, hand_card, next_granule, owed, Image, links}
use Rattle.model.specs.Undamaged.{link_to_come, granule_to_come, owed_with, covered, entered}
use Rattle.model.proofs.Laws.{all_use, all_make, imp_make, some_make, some_use, some_nil, some_false}
use Rattle.judge_laws.specs.Order.{hand_comes, card_comes, holds, owes_holding, nil_or_marked, plain, coming, late, object_covered, Coverable}
use Rattle.image_laws.proofs.Parts.{all_cong}
use mathlib.Core.Logic.{inl, inr}

-- seven lines in another order
late_some : (a b d e h c o : Bool) → some (d ∷ e ∷ c ∷ []) ≡ false → some (some (a ∷ b ∷ []) ∷ h ∷ o ∷ []) ≡ some (a ∷ b ∷ d ∷ e ∷ h ∷ c ∷ o ∷ [])
unfolding some
late_some a b d e h c o q =
    rw (some_false (d ∷ e ∷ c ∷ []) q 0, some_false (d ∷ e ∷ c ∷ []) q 1, some_false (d ∷ e ∷ c ∷ []) q 2) (simp (or_assoc, or-false))

-- ---- objects that are covered, marked or not

pub object_plain : (m : Image) (g : ℕ) → all (links m g) (plain m g) ≡ true → object_covered m g ≡ true
unfolding object_covered covered plain nil_or_marked
object_plain m g e =
    imp_make (marked m g) _ (λ _. all_make (links m g) _ (λ i q.
    elim (some_use _ _ (all_use (links m g) _ e i q)) [ inl u ↦ some_make _ 0 u | inr u ↦ elim (some_use _ _ u) [ inl v ↦ some_make _ 1 v | inr v ↦ some_nil v ] ]))

pub object_coming : (m : Image) (g : ℕ) → coming m g ≡ true → object_covered m g ≡ true
unfolding object_covered covered coming
object_coming m g e =
    imp_make (marked m g) _ (λ _. all_make (links m g) _ (λ i q. elim (some_use _ _ e) [
      | inl u ↦ some_make _ 2 u
      | inr u ↦ elim (some_use _ _ u) [ inl v ↦ some_make _ 3 v | inr v ↦ elim (some_use _ _ v) [ inl x ↦ some_make _ 5 x | inr x ↦ some_nil x ] ]
    ]))

-- ---- the ways out of `object_covered`

module _ (m : Image) (g : ℕ) (mg : marked m g ≡ true) (n : ℕ) (en : n ≡ links m g) where
  pub inside_of : (k : ℕ) → Coverable k m → g < 64 * k → 4 * g + 2 + n ≤ 256 * k
  inside_of k r h = rw en (r.inside g h mg)

  pub cov_plain : (r : Bool) → r ≡ all n (plain m g) → r ≡ true → true ≡ object_covered m g
  cov_plain r e h = sym (object_plain m g (rw en at (sym e ∙ h)))

  pub cov_coming : (d : Bool) → d ≡ coming m g → d ≡ true → true ≡ object_covered m g
  cov_coming d e h = sym (object_coming m g (sym e ∙ h))

  pub cov_late : (d r : Bool) → d ≡ coming m g → d ≡ false → r ≡ all n (late m g) → r ≡ object_covered m g
  unfolding object_covered implies covered coming late plain nil_or_marked
  cov_late d r e h q = rw (mg, ← en) (q ∙ all_cong n _ _ (λ i v. late_some _ _ _ _ _ _ _ (sym e ∙ h)))

module _ (m : Image) where
  -- ---- one tracer, one player

  pub hand-comes : (g i t h n : ℕ) → h ≡ nth m.tracers (8 * t + 2) → n ≡ nth m.tracers (8 * t + 3) → (eqb h g && leb n i) ≡ hand_comes m g i t
  unfolding hand_comes every hand next_link
  hand-comes g i t h n eh en = rw (← eh, ← en) (simp and-true)

  pub card-comes : (g t c n : ℕ) → c ≡ nth m.tracers (8 * t + 4) → n ≡ nth m.tracers (8 * t + 5) → (eqb c (g / 64 + 1) && leb n g) ≡ card_comes m g t
  unfolding card_comes every hand_card next_granule
  card-comes g t c n ec en = rw (← ec, ← en, add-one) (simp and-true)

  module _ (g a p v : ℕ) (e : v ≡ owed m p) where
    pub owes_no : (v ≡ g / 64 + 1 → ⊥) → false ≡ owes_holding m g a p
    unfolding owes_holding every
    owes_no h = rw (← e, ne_eqb v (suc (g / 64)) (λ q. h (omega arith)))

    pub owes_yes : (r : Bool) → v ≡ g / 64 + 1 → r ≡ any 16 (holds m p a) → r ≡ owes_holding m g a p
    unfolding owes_holding every
    owes_yes r h q = rw (← e, eq-eqb v (suc (g / 64)) (omega arith), ← q) (sym (and-true r))

  -- ---- one link

  pub plain_is : (g j a : ℕ) (t : Bool) → a ≡ word m g (2 + j) → t ≡ (eqb a 0 || marked m a) → t ≡ plain m g j
  unfolding plain nil_or_marked some link
  plain_is g j a t ea et = rw (← ea, et) (simp or-false)

  module _ (g j : ℕ) (t : Bool) (e : t ≡ plain m g j) where
    pub late_plain : t ≡ true → true ≡ late m g j
    unfolding late some
    late_plain h = rw (← e, h)

    pub late_more : (a : ℕ) (x y : Bool) → t ≡ false → a ≡ word m g (2 + j) → x ≡ any 8 (hand_comes m g j) → y ≡ any 16 (owes_holding m g a) → (x || y) ≡ late m g j
    unfolding late some link_to_come hand_comes owed_with owes_holding holds link
    late_more a x y h q ex ey = rw (← e, h, ← q, ex, ey, or-false)

  -- ---- one object

  module _ (g : ℕ) (d : Bool) (ed : d ≡ dirty m (g / 64)) where
    pub coming_dirty : d ≡ true → true ≡ coming m g
    unfolding coming some
    coming_dirty h = rw (← ed, h)

    module _ (hd : d ≡ false) (x : Bool) (ex : x ≡ entered m g) where
      pub coming_entered : x ≡ true → true ≡ coming m g
      unfolding coming some
      coming_entered h = rw (← ed, hd, ← ex, h)

      pub coming_card : (c : Bool) → x ≡ false → c ≡ any 8 (card_comes m g) → c ≡ coming m g
      unfolding coming some granule_to_come card_comes
      coming_card c h q = rw (← ed, hd, ← ex, h, ← q) (sym (or-false c))
