-- A history is the run of one list of records, and neither the list nor the results of the batches go by the rule of placing.
use mathlib.Core.Path.{◌≡◌, refl, sym, ap, ◌∙◌}
use mathlib.Core.Bool.{Bool, true, false, cond}
use mathlib.Core.List.Memᴰ
use mathlib.Core.List.{List, [], ◌∷◌, ◌++◌, Memᴰ}
use mathlib.Core.Logic.{inl, inr}
use Prim.Native.Nat.{ℕ}
use native.Mathlib.Omega.{arith}
use lib.ListN.{length}
use borrow.Author.Tests.{not-false}
use Rattle.model.specs.Base.{some, first}
use Rattle.model.specs.Image.{Image, fits, parts, words}
use Rattle.model.specs.Undamaged.{undamaged, judge_at}
use Rattle.model.specs.Records.{records}
use Rattle.model.specs.Mutate.{Placing}
use Rattle.model.specs.Steps.{run, after}
use Rattle.model.specs.Batch.{events, misfit, call_number, batch_with, batch_at}
use Rattle.model.specs.Claim.{Lent, events_of, history, results}
use Rattle.model.proofs.Laws.{first_none, bool_cases}
use Rattle.theory.specs.Events.{bad_lengths, records_run, call_results, Successive}
use Rattle.theory.specs.Lines.{Passes}
use Rattle.theory.proofs.cycle.Linked.{run_linked}
use Rattle.theory.proofs.steps.Kept.{step_passes}
use Rattle.theory.proofs.steps.Steps.{run_append, run-ok}
use Rattle.theory.proofs.lines.Passing.{judge_use, judge_make, words_round}

-- ---- which batches are run

call_lines : (x y : Bool) → first 1 (some (false ∷ x ∷ y ∷ []) ∷ false ∷ []) ≡ cond (some (x ∷ y ∷ [])) 1 0
unfolding first some
call_lines true y = refl
call_lines false true = refl
call_lines false false = refl

-- an image that is judged 0 refuses a batch for the batch's own lengths, and for nothing else
call-number : (w : ℕ) (ws : List ℕ) (b : Lent) → judge_at w ws ≡ 0 → call_number w ws b.steps b.answers ≡ cond (bad_lengths w b) 1 0
unfolding judge_at call_number misfit bad_lengths
call-number w ws b e =
    let f : fits w (length ws) ≡ true = not-false _ (first_none 0 _ e 0) in
    let u : undamaged (parts w ws) ≡ true = not-false _ (first_none 0 _ e 1) in
    rw (f, u) (call_lines _ _)

-- no batch answers 2
pub none_refused : (w : ℕ) (bs : List Lent) (r : ℕ) → Memᴰ r (call_results w bs) → r ≡ 2 → ⊥
unfolding call_results
none_refused w [] r k e = elim k [ ]
none_refused w (b ∷ bs) r k e = elim (Memᴰ.cases_cons k) [
  | inl x ↦ elim (bool_cases (bad_lengths w b)) [ inl t ↦ omega (arith, rw t at x) | inr t ↦ omega (arith, rw t at x) ]
  | inr x ↦ none_refused w bs r x e
]

-- ---- what is run

module _ (rule : Placing) (w : ℕ) where
  -- the image that the records of a batch leave
  left : List ℕ → Lent → Image
  left ws b = after (parts w ws) (run rule (parts w ws) (records w b.steps))

  left_passes : (ws : List ℕ) (b : Lent) → judge_at w ws ≡ 0 → Passes w (left ws b)
  unfolding left
  left_passes ws b e = run-ok rule (Passes w) (step_passes rule w) (parts w ws) (records w b.steps) (judge_use w ws e)

  -- "each batch gets the image that the last left, and a refused one adds no step"
  pub history_run : (ws : List ℕ) (bs : List Lent) → judge_at w ws ≡ 0 → history rule w ws bs ≡ run rule (parts w ws) (records_run w bs)
  unfolding history events_of batch_at batch_with events left run records_run
  history_run ws [] e = refl
  history_run ws (b ∷ bs) e = elim (bool_cases (bad_lengths w b)) [
    | inl t ↦ rw (call-number w ws b e, t) (history_run ws bs e)
    | inr t ↦
        let p = left_passes ws b e in
        rw (call-number w ws b e, t)
        (ap (λ l. run rule (parts w ws) (records w b.steps) ++ l) (history_run (words (left ws b)) bs (judge_make w _ p) ∙ ap (λ x. run rule x (records_run w bs)) (words_round w _ p))
        ∙ sym (run_append rule (parts w ws) (records w b.steps) (records_run w bs)))
  ]

  pub results_run : (ws : List ℕ) (bs : List Lent) → judge_at w ws ≡ 0 → results rule w ws bs ≡ call_results w bs
  unfolding results batch_at batch_with events left call_results
  results_run ws [] e = refl
  results_run ws (b ∷ bs) e = elim (bool_cases (bad_lengths w b)) [
    | inl t ↦ rw (call-number w ws b e, t) (ap (λ l. 1 ∷ l) (results_run ws bs e))
    | inr t ↦ rw (call-number w ws b e, t) (ap (λ l. 0 ∷ l) (results_run (words (left ws b)) bs (judge_make w _ (left_passes ws b e))))
  ]

  -- its events are linked
  pub history_linked : (ws : List ℕ) (bs : List Lent) → judge_at w ws ≡ 0 → Successive rule (parts w ws) (history rule w ws bs) (after (parts w ws) (run rule (parts w ws) (records_run w bs)))
  history_linked ws bs e = rw (history_run ws bs e) (run_linked rule (parts w ws) (records_run w bs))
