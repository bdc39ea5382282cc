-- Kind 14: its value goes by the stretches of unused granules, and nothing else of any step goes by its rule.
use mathlib.Core.Path.{◌≡◌, refl, sym, ap, ◌∙◌}
use mathlib.Core.Bool.{cond}
use Prim.Native.Nat.{ℕ, zero, suc}
use lib.Dec.{ltb}
use Rattle.model.specs.Image.{Image}
use Rattle.model.specs.Records.{Step, Kind, new, load, store, barrier, hand_over, drop_reg, read, write, begin, scan, trace, clean, finish, is_due, undirty, unknown, kind_of}
use Rattle.model.specs.Mutate.{Placing, usable_run, usable_granules}
use Rattle.model.specs.Steps.{Done, refusal, accept, finish_done, due_value, act_by, outcome_by, step_by, act, step}
use Rattle.theory.specs.Lines.{Undamaged}
use Rattle.theory.specs.Pieces.{granules_in_stretches}
use Rattle.theory.specs.Due.{SameButDue}
use Rattle.theory.proofs.heap.Facts.{heap_filled_of, heap_sized_of}
use Rattle.theory.proofs.heap.Outside.{stretches_counted}
use Rattle.theory.proofs.steps.Steps.{step_number, accepted}

alike : (n : Kind) (d : Done) → SameButDue n d d
alike n d = record { same_image = refl; same_number = refl; same_value = λ other. refl }

module _ (rule : Placing) (m : Image) (s : Step) where
  -- "1 if the granules in such runs are fewer than a", without the chain: a run is a maximal stretch of unused granules
  pub due-value : Undamaged m → kind_of s.kind ≡ is_due → (step rule m s).number ≡ 0 → (step rule m s).value ≡ cond (ltb (granules_in_stretches usable_run m) s.a) 1 0
  unfolding act accept due_value usable_granules
  due-value u k e =
      ap (λ d. d.value) (accepted rule m s k (sym (step_number rule m s k) ∙ e))
      ∙ ap (λ n. cond (ltb n s.a) 1 0) (stretches_counted m (heap_filled_of u.sound.lines) (heap_sized_of u.sound.lines) usable_run)

  module _ (r q : Image → ℕ → ℕ) where
    acts_alike : (n : Kind) → SameButDue n (act_by rule m s r n) (act_by rule m s q n)
    unfolding act_by accept finish_done
    acts_alike new = alike new _
    acts_alike load = alike load _
    acts_alike store = alike store _
    acts_alike barrier = alike barrier _
    acts_alike hand_over = alike hand_over _
    acts_alike drop_reg = alike drop_reg _
    acts_alike read = alike read _
    acts_alike write = alike write _
    acts_alike begin = alike begin _
    acts_alike scan = alike scan _
    acts_alike trace = alike trace _
    acts_alike clean = alike clean _
    acts_alike finish = alike finish _
    acts_alike is_due = record { same_image = refl; same_number = refl; same_value = λ other. absurd (other refl) }
    acts_alike undirty = alike undirty _
    acts_alike unknown = alike unknown _

    outcomes_alike : (n : Kind) (x : ℕ) → SameButDue n (outcome_by rule m s r n x) (outcome_by rule m s q n x)
    unfolding outcome_by
    outcomes_alike n zero = acts_alike n
    outcomes_alike n (suc x) = alike n _

    -- a step's image never depends on the rule of kind 14, nor does its number; of the values only kind 14's does
    pub due_rule : SameButDue (kind_of s.kind) (step_by rule m s r) (step_by rule m s q)
    unfolding step_by
    due_rule = outcomes_alike (kind_of s.kind) (refusal m s (kind_of s.kind))
