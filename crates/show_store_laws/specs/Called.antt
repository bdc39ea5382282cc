-- Calls of `batch` at words of w bits, one after the other: all that is known of each is its contract.
use Rattle.std.specs.Prelude.{◌≡◌, ℕ, zero, suc}
use mathlib.Core.List.{List, [], ◌∷◌, ◌++◌, map, Memᴰ}
use Rattle.model.specs.Batch.{Batch, batch_at}
use Rattle.model.specs.Undamaged.{judge_at}
use Rattle.model.specs.Mutate.{tightest}
use Rattle.model.specs.Steps.{answers_of}
use Rattle.model.specs.Claim.{Lent, history, results, Claim}
use Rattle.model.specs.Bound.{CycleBound}

-- batches lent from the image ws on, and what each gave and left; "each batch gets the image that the last left"
pub data Called (w : ℕ) : List ℕ → List Lent → List Batch → Type 0 where
  none : {ws : List ℕ} → Called w ws [] []
  more : {ws : List ℕ} (b : Lent) (r : Batch) (bs : List Lent) (rs : List Batch) → r ≡ batch_at tightest w ws b.steps b.answers → Called w r.image bs rs → Called w ws (b ∷ bs) (r ∷ rs)

-- the answer words that a call with this result has written
unfoldable pub written_by : Batch → ℕ → List ℕ
written_by r zero = r.answers
written_by r (suc n) = []

-- those of all calls
unfoldable pub written : List Batch → List ℕ
written [] = []
written (r ∷ rs) = written_by r r.result ++ written rs

-- what holds of a row of calls from an undamaged image: demand 3 of `docs/DEMANDS.md` and document 02's bound of a cycle, where the results and
-- answers of the history are those that the calls gave and wrote, and every image handed back is undamaged
pub record CallsHold (w : ℕ) (ws : List ℕ) (bs : List Lent) (rs : List Batch) : Type 0 where
  pub claim : Claim tightest w ws bs
  pub bound : CycleBound tightest w ws bs
  pub same_results : map (λ (r : Batch). r.result) rs ≡ results tightest w ws bs
  pub same_answers : answers_of (history tightest w ws bs) ≡ written rs
  pub undamaged : (r : Batch) → Memᴰ r rs → judge_at w r.image ≡ 0
