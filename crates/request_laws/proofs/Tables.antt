-- Constant tables with an entry for each kind in one number, held against the model's table of kinds.
use mathlib.Core.Path.{◌≡◌, refl, sym, ◌∙◌}
use mathlib.Core.Bool.{Bool, true, false, not, cond, ◌&&◌, or-false}
use Prim.Native.Nat.{ℕ, zero, suc, ◌^◌, ◌<◌}
use lib.Dec.{eqb, leb}
use borrow.Author.Tests.{eqb-true, not-true, ne_eqb}
use Rattle.model.specs.Base.{all, test_bit, some}
use Rattle.model.specs.Records.{kind_of}
use Rattle.model.proofs.Laws.{all_use}
use Rattle.theory.specs.Fields.{bound_at, role_at, is_card, no_card}
use Rattle.theory.proofs.steps.Fields.{four}
use Rattle.request_laws.specs.Request.{asks_debt, role_digit, role_limit, requested}
use Rattle.request_laws.specs.declared.Request.{Request}
use Rattle.model.specs.Rows.{row_of, fields}
use native.Mathlib.Omega.{arith}
use native.Mathlib.Decide.{ℕ_discrete}

-- ---- a limit by its role

module _ (w d : ℕ) where
  pub limit_unused : d ≡ 0 → 0 ≡ role_limit w d
  unfolding role_limit
  limit_unused e = rw e

  pub limit_desk : d ≡ 1 → 16 ≡ role_limit w d
  unfolding role_limit
  limit_desk e = rw e

  pub limit_tracer : d ≡ 2 → 8 ≡ role_limit w d
  unfolding role_limit
  limit_tracer e = rw e

pub limit_number : (w d : ℕ) → (d ≡ 0 → ⊥) → (d ≡ 1 → ⊥) → (d ≡ 2 → ⊥) → 2 ^ w ≡ role_limit w d
unfolding role_limit
limit_number w zero a b c = absurd (a refl)
limit_number w (suc zero) a b c = absurd (b refl)
limit_number w (suc (suc zero)) a b c = absurd (c refl)
limit_number w (suc (suc (suc d))) a b c = refl

-- ---- whole tables: t is right for field i

same_bool : (a b : Bool) → cond a b (not b) ≡ true → a ≡ b
same_bool true b e = sym e
same_bool false b e = sym (not-true b e)

module _ (n : ℕ) (h : n < 16) (i j : ℕ) (q : j ≡ i) where
  pub limit_at : (w t r : ℕ) → r ≡ role_limit w (role_digit t n) → all 16 (λ n. eqb (role_limit w (role_digit t n)) (bound_at w (kind_of n) i)) ≡ true → r ≡ bound_at w (kind_of n) j
  limit_at w t r f e = f ∙ (eqb-true _ _ (all_use 16 (λ n. eqb (role_limit w (role_digit t n)) (bound_at w (kind_of n) i)) e n h) ∙ rw q)

  pub debt_at : (t : ℕ) (r : Bool) → r ≡ test_bit t n → all 16 (λ n. cond (test_bit t n) (asks_debt (kind_of n) i) (not (asks_debt (kind_of n) i))) ≡ true → r ≡ asks_debt (kind_of n) j
  debt_at t r f e = f ∙ (same_bool _ _ (all_use 16 (λ n. cond (test_bit t n) (asks_debt (kind_of n) i) (not (asks_debt (kind_of n) i))) e n h) ∙ rw q)

-- fields a and c never are players who must owe nothing
module _ (n : ℕ) (h : n < 16) where
  pub no_debt : (j : ℕ) → j < 4 → (j ≡ 0 → ⊥) → (j ≡ 2 → ⊥) → false ≡ asks_debt (kind_of n) j
  unfolding all kind_of asks_debt
  no_debt =
      four (λ j. (j ≡ 0 → ⊥) → (j ≡ 2 → ⊥) → false ≡ asks_debt (kind_of n) j)
      (λ a b. absurd (a refl)) (λ a b. sym (not-true _ (all_use 16 (λ n. not (asks_debt (kind_of n) 1)) refl n h)))
      (λ a b. absurd (b refl)) (λ a b. sym (not-true _ (all_use 16 (λ n. not (asks_debt (kind_of n) 3)) refl n h)))

-- ---- what is asked of one field: that its card exists, that its player owes nothing

-- only field a of kind 15 names a card
no_card_at : (n : ℕ) → n < 15 → (i : ℕ) → i < 4 → is_card (role_at (kind_of n) i) ≡ false
unfolding all kind_of role_at is_card
no_card_at n h i l = not-true (is_card (role_at (kind_of n) i)) (all_use 4 (λ i. not (is_card (role_at (kind_of n) i))) (all_use 15 (λ n. all 4 (λ i. not (is_card (role_at (kind_of n) i)))) refl n h) i l)

pub card_found : (k : ℕ) (r : Request) → r.kind < 16 → (eqb r.kind 15 && leb k r.a) ≡ no_card k (requested r) (kind_of r.kind)
unfolding no_card is_card requested fields kind_of row_of role_at some
card_found k r h = elim (ℕ_discrete r.kind 15) [
  | yes e ↦ rw e (sym (or-false (leb k r.a)))
  | no e ↦
      let c : (i : ℕ) → i < 4 → is_card (role_at (kind_of r.kind) i) ≡ false = no_card_at r.kind (omega arith) in
      rw (ne_eqb r.kind 15 e, c 0 (omega arith), c 1 (omega arith), c 2 (omega arith), c 3 (omega arith)) refl
]

-- a field that is asked for its debt, and one that is not
module _ (d : Bool) {t : Bool} (e : t ≡ d) where
  pub debt_owes : t ≡ true → (x y : ℕ) → x ≡ y → not (eqb x 0) ≡ (d && not (eqb y 0))
  debt_owes h x y f = rw (← e, h, f)

  pub debt_none : t ≡ false → (y : ℕ) → false ≡ (d && not (eqb y 0))
  debt_none h y = rw (← e, h)
