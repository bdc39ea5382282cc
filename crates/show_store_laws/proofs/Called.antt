-- What the contract of `batch` says over a row of calls: demand 3, how long a cycle can drag on, and an undamaged image is handed back undamaged.
use mathlib.Core.Path.{◌≡◌, refl, ap, ◌∙◌}
use mathlib.Core.List.Memᴰ
use mathlib.Core.List.{List, ◌∷◌, map, Memᴰ}
use mathlib.Core.Logic.{inl, inr}
use Prim.Native.Nat.{ℕ, zero, suc}
use Rattle.model.specs.Mutate.{tightest}
use Rattle.model.specs.Steps.{answers_of}
use Rattle.model.specs.Batch.{Batch, call_number, batch_with, batch_at}
use Rattle.model.specs.Claim.{Lent, events_of, history, results}
use Rattle.model.specs.Undamaged.{judge_at}
use Rattle.theory.proofs.steps.Kept.{batch_judged}
use Rattle.theory.proofs.Demand.{demand_three}
use Rattle.theory.proofs.Bound.{cycle_bound}
use Rattle.show_store_laws.specs.Called.{CallsHold, Called, none, more, written_by, written}
use Rattle.show_store_laws.proofs.Run.{answers_append}

-- the claim's results are the calls' results
calls_results : {w : ℕ} {ws : List ℕ} {bs : List Lent} {rs : List Batch} → Called w ws bs rs → map (λ (r : Batch). r.result) rs ≡ results tightest w ws bs
unfolding results
calls_results none = refl
calls_results (more b r bs rs e c) = rw (← e) (ap (λ l. r.result ∷ l) (calls_results c))

-- the claim's answers are the words that the calls have written
one_written : (w : ℕ) (ws : List ℕ) (b : Lent) (n : ℕ) → let q : Batch = batch_with tightest w ws b.steps b.answers n in answers_of (events_of tightest w ws b q.result) ≡ written_by q q.result
unfolding batch_with events_of written_by answers_of
one_written w ws b zero = refl
one_written w ws b (suc n) = refl

calls_answers : {w : ℕ} {ws : List ℕ} {bs : List Lent} {rs : List Batch} → Called w ws bs rs → answers_of (history tightest w ws bs) ≡ written rs
unfolding history written batch_at answers_of
calls_answers none = refl
calls_answers {w} {ws} (more b r bs rs e c) =
    let n : ℕ = call_number w ws b.steps b.answers in
    let q : Batch = batch_with tightest w ws b.steps b.answers n in
    let rest : answers_of (history tightest w q.image bs) ≡ written rs = rw e at (calls_answers c) in
    answers_append (events_of tightest w ws b q.result) (history tightest w q.image bs) ∙ rw (one_written w ws b n, rest, e)

-- "A batch hands back an undamaged image undamaged"
calls_undamaged : {w : ℕ} {ws : List ℕ} {bs : List Lent} {rs : List Batch} → judge_at w ws ≡ 0 → Called w ws bs rs → (r : Batch) → Memᴰ r rs → judge_at w r.image ≡ 0
calls_undamaged j none r k = elim k [ ]
calls_undamaged {w} {ws} j (more b q bs rs e c) r k =
    let left : judge_at w q.image ≡ 0 = rw e (batch_judged tightest w ws b.steps b.answers j) in
    elim (Memᴰ.cases_cons k) [ inl x ↦ rw x left | inr x ↦ calls_undamaged left c r x ]

pub calls_hold : (w : ℕ) (ws : List ℕ) (bs : List Lent) (rs : List Batch) → judge_at w ws ≡ 0 → Called w ws bs rs → CallsHold w ws bs rs
calls_hold w ws bs rs j c = record { claim = demand_three tightest w ws bs j; bound = cycle_bound tightest w ws bs j; same_results = calls_results c; same_answers = calls_answers c; undamaged = calls_undamaged j c }
