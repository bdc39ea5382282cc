-- A visit by cases, and each way out of it from the facts as the code finds them.
use mathlib.Core.Path.{◌≡◌, ◌∙◌}
use mathlib.Core.Logic.{◌⊎◌, inl, inr}
use mathlib.Core.Bool.{Bool, true, false}
use Prim.Native.Nat.{ℕ, ◌+◌, ◌/◌, ◌≤◌}
use native.Mathlib.Omega.{arith}
use native.Mathlib.Decide.{ℕ_discrete}
use borrow.Author.Tests.{eq-eqb, ne_eqb}
use Rattle.model.specs.Image.{Image, with_starts, with_marks, set_mark, set_state, marked, state}
use Rattle.model.proofs.Laws.{bool_cases}
use Rattle.finish_marking_laws.specs.Follow.{card_word, Headed, headed, pend, enlisted, visited}
use Rattle.image_laws.specs.Bits.{clear_start}
use Rattle.image_laws.specs.Digits.{mark_bit}
use Rattle.image_laws.proofs.Digits.{digit_on, digit_off}

pub data Visit (m : Image) (h a : ℕ) : Headed → Type 0 where
  past : (a ≡ 0) ⊎ (mark_bit m a ≡ 1) → Visit m h a (headed h m)
  on : (a ≡ 0 → ⊥) → mark_bit m a ≡ 0 → 1 ≤ card_word m (a / 64) → Visit m h a (headed h (pend m a))
  new : (a ≡ 0 → ⊥) → mark_bit m a ≡ 0 → card_word m (a / 64) ≡ 0 → Visit m h a (headed (a / 64 + 2) (set_state (pend m a) (a / 64) h))

pub visit_cases : (m : Image) (h a : ℕ) → Visit m h a (visited m h a)
unfolding visited enlisted pend clear_start set_mark with_starts with_marks
visit_cases m h a = elim (ℕ_discrete a 0) [
  | yes e ↦ rw (eq-eqb a 0 e) (past (inl e))
  | no n ↦ rw (ne_eqb a 0 n) (elim (bool_cases (marked m a)) [
    | inl e ↦ rw e (past (inr (digit_on e)))
    | inr u ↦ rw u (elim (ℕ_discrete (card_word m (a / 64)) 0) [
      | yes e ↦ rw (eq-eqb (card_word m (a / 64)) 0 e) (new n (digit_off u) e)
      | no z ↦ rw (ne_eqb (card_word m (a / 64)) 0 z) (on n (digit_off u) (omega arith))
    ])
  ])
]

-- ---- the ways out of the code

module _ (m : Image) (h a : ℕ) where
  pub visit_nil : a ≡ 0 → headed h m ≡ visited m h a
  unfolding visited
  visit_nil e = simp eq-eqb

  module _ (n : a ≡ 0 → ⊥) (r : Bool) (er : r ≡ marked m a) where
    pub visit_marked : r ≡ true → headed h m ≡ visited m h a
    unfolding visited
    visit_marked e = rw (ne_eqb a 0 n, ← er, e)

    module _ (u : r ≡ false) (m1 m2 : Image) (e1 : m1 ≡ set_mark m a) (e2 : m2 ≡ clear_start m1 a) (c : ℕ) (ec : c ≡ a / 64) (v : ℕ) (ev : v ≡ state m2 c) where
      pends : m2 ≡ pend m a
      unfolding pend
      pends = e2 ∙ rw e1

      pub visit_on : (v ≡ 0 → ⊥) → headed h m2 ≡ visited m h a
      unfolding visited enlisted state
      visit_on nv = rw (ne_eqb a 0 n, ← er, u, ← pends, ← ec, ← ev, ne_eqb v 0 nv)

      pub visit_new : v ≡ 0 → (m3 : Image) → m3 ≡ set_state m2 c h → headed (c + 2) m3 ≡ visited m h a
      unfolding visited enlisted state
      visit_new zv m3 e3 = rw (ne_eqb a 0 n, ← er, u, ← pends, ← ec, ← ev, eq-eqb v 0 zv, e3)
