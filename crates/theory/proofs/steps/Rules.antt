-- The rule of placing: no number goes by it, and nothing else of any step but an accepted new.
use mathlib.Core.Path.{◌≡◌, refl, sym, ◌∙◌}
use mathlib.Core.Logic.{inl, inr}
use Rattle.model.specs.Image.{Image}
use Rattle.model.specs.Records.{Step, Kind, new, load, store, barrier, hand_over, drop_reg, read, write, begin, scan, trace, clean, finish, is_due, undirty, unknown, kind_of}
use Rattle.model.specs.Mutate.{Placing}
use Rattle.model.specs.Steps.{refusal, act, outcome, step}
use Rattle.theory.specs.Placing.{SameButNew}
use Rattle.theory.proofs.steps.Steps.{zero_or_suc, step_number, accepted}

module _ (rule other : Placing) (m : Image) (s : Step) where
  same_act : (n : Kind) → (n ≡ new → ⊥) → act rule m s n ≡ act other m s n
  unfolding act
  same_act new h = absurd (h refl)
  same_act load h = refl
  same_act store h = refl
  same_act barrier h = refl
  same_act hand_over h = refl
  same_act drop_reg h = refl
  same_act read h = refl
  same_act write h = refl
  same_act begin h = refl
  same_act scan h = refl
  same_act trace h = refl
  same_act clean h = refl
  same_act finish h = refl
  same_act is_due h = refl
  same_act undirty h = refl
  same_act unknown h = refl

  pub placing_rule : SameButNew (kind_of s.kind) (step rule m s) (step other m s)
  placing_rule = record {
    same_number = step_number rule m s refl ∙ sym (step_number other m s refl);
    same_else = λ h. elim (zero_or_suc (refusal m s (kind_of s.kind))) [
      | inl e ↦ accepted rule m s refl e ∙ same_act (kind_of s.kind) h ∙ sym (accepted other m s refl e)
      | inr (r, e) ↦ unfold step outcome in rw e refl
    ];
  }
