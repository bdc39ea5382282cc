-- Every step keeps "undamaged", and so does every list of steps: a refused one leaves the image as it was, an accepted one goes by its kind.
use mathlib.Core.Path.{◌≡◌, refl, ◌∙◌}
use mathlib.Core.Logic.{inl, inr}
use mathlib.Core.List.{List}
use Prim.Native.Nat.{ℕ}
use Rattle.model.specs.Image.{Image, parts}
use Rattle.model.specs.Undamaged.{judge_at}
use Rattle.model.specs.Records.{Step, records}
use Rattle.model.specs.Mutate.{Placing}
use Rattle.model.specs.Steps.{step}
use Rattle.model.specs.Batch.{call_number, events, batch_with, batch_at}
use Rattle.theory.specs.Lines.{Undamaged, Passes}
use Rattle.theory.proofs.steps.EachKind.{Keeps, kind_keeps}
use Rattle.theory.proofs.steps.Steps.{zero_or_suc, step_cases, run-ok}
use Rattle.theory.proofs.lines.Passing.{judge_use, judge_make}

-- ---- one step

pub step_stays : (rule : Placing) (m : Image) (s : Step) → Undamaged m → Keeps m (step rule m s).image
step_stays rule m s u = step_cases rule m s (Keeps m) (u, refl, refl) (λ n k. kind_keeps rule m s u n)

pub step_keeps : (rule : Placing) (m : Image) (s : Step) → Undamaged m → Undamaged (step rule m s).image
step_keeps rule m s u = (step_stays rule m s u).0

pub step_passes : (rule : Placing) (w : ℕ) (m : Image) (s : Step) → Passes w m → Passes w (step rule m s).image
step_passes rule w m s p =
    let e = step_stays rule m s p.is_undamaged in
    record { is_undamaged = e.0; same_width = e.1 ∙ p.same_width; cards_most = rw e.2 p.cards_most }

-- ---- calls

-- "A batch hands back an undamaged image undamaged"
pub batch_judged : (rule : Placing) (w : ℕ) (ws bytes answers : List ℕ) → judge_at w ws ≡ 0 → judge_at w (batch_at rule w ws bytes answers).image ≡ 0
unfolding batch_at batch_with events
batch_judged rule w ws bytes answers e =
    elim (zero_or_suc (call_number w ws bytes answers)) [
      | inl z ↦ rw z (judge_make w _ (run-ok rule (Passes w) (step_passes rule w) (parts w ws) (records w bytes) (judge_use w ws e)))
      | inr (r, z) ↦ rw z e
    ]
