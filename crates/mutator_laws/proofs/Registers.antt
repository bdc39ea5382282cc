-- Barrier, hand and drop: their cases.
use mathlib.Core.Path.{◌≡◌, refl, sym, ◌∙◌}
use mathlib.Core.List.{List}
use Prim.Native.Nat.{ℕ, ◌-◌, ◌≤◌, ◌<◌}
use borrow.Author.Tests.{eq-eqb, ne_eqb}
use Rattle.model.specs.Image.{Image, reg, owed, dirty_card, set_reg, set_owed, image, image_of}
use Rattle.model.specs.Mutate.{tightest}
use Rattle.model.specs.Steps.{object, numbers_open, accept, act, step}
use Rattle.theory.specs.Lines.{Sound}
use Rattle.request_laws.specs.Answer.{done, asked}
use Rattle.request_laws.proofs.Numbers.{number_11, number_0}
use Rattle.mutator_laws.proofs.Passed.{barrier_passed, hand_passed, drop_passed}

-- ---- barrier

-- "Owed cards exist."
pub owed_card : (w k : ℕ) (ws : List ℕ) → Sound (image_of w k ws) → (p o : ℕ) → o ≡ owed (image_of w k ws) p → o ≤ k
unfolding owed image_of image
owed_card w k ws s p o e = rw e (s.lines.players_ok.owed_ok p)

module _ (m : Image) (p : ℕ) (h : p < 16) (o : ℕ) (eo : o ≡ owed m p) where
  pub barrier_idle : o ≡ 0 → done 11 0 m ≡ step tightest m (asked 4 p 0 0 0)
  unfolding asked numbers_open
  barrier_idle e = number_11 (barrier_passed m p h) refl refl refl refl refl (eq-eqb _ 0 (sym eo ∙ e))

  pub barrier_done : (o ≡ 0 → ⊥) → (i j : Image) → i ≡ dirty_card m (o - 1) → j ≡ set_owed i p 0 → done 0 0 j ≡ step tightest m (asked 4 p 0 0 0)
  unfolding asked numbers_open act accept
  barrier_done nz i j ei ej = rw (ej, ei, eo) (number_0 (barrier_passed m p h) refl refl refl refl refl (ne_eqb _ 0 (λ e. nz (eo ∙ e))))

-- ---- hand

pub hand_done : (m : Image) (p a q b : ℕ) → (p < 16) × (a < 16) × (q < 16) × (b < 16) → (owed m p ≡ 0) × (owed m q ≡ 0) → (v : ℕ) → v ≡ reg m p a → (i : Image) → i ≡ set_reg m q b v → done 0 0 i ≡ step tightest m (asked 5 p a q b)
unfolding asked numbers_open object act accept
hand_done m p a q b h z v ev i ei = rw (ei, ev) (number_0 (hand_passed m p a q b h z) refl refl refl refl refl refl)

-- ---- drop

pub drop_done : (m : Image) (p a : ℕ) → (p < 16) × (a < 16) → owed m p ≡ 0 → (i : Image) → i ≡ set_reg m p a 0 → done 0 0 i ≡ step tightest m (asked 6 p a 0 0)
unfolding asked numbers_open act accept
drop_done m p a h z i ei = rw ei (number_0 (drop_passed m p a z h) refl refl refl refl refl refl)
