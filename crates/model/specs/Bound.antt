-- Request (vii) of document 02, how long a cycle can drag on, as statements about a first image and a list of batches.
use Rattle.std.specs.Prelude.{◌≡◌, Bool, cond, ℕ, ◌+◌, ◌*◌, ◌≤◌, eqb}
use mathlib.Core.List.{List, [], ◌∷◌, ◌++◌, Memᴰ}
use Rattle.model.specs.Base.{every, some}
use Rattle.model.specs.Image.{Image, granules, parts}
use Rattle.model.specs.Records.{begin, finish}
use Rattle.model.specs.Mutate.{Placing}
use Rattle.model.specs.Steps.{Event}
use Rattle.model.specs.Claim.{Lent, history, Accepted}

-- an accepted trace or clean step: kind 11 or 12 by its record, number 0 by its answer
unfoldable pub is_work : Event → Bool
is_work e = every (some (eqb e.request.kind 11 ∷ eqb e.request.kind 12 ∷ []) ∷ eqb e.done.number 0 ∷ [])

-- how many there are, "with the count taken from the answers of the steps"
unfoldable pub work_in : List Event → ℕ
work_in [] = 0
work_in (e ∷ es) = cond (is_work e) 1 0 + work_in es

-- opens what of these computes
unfoldable pub bound_open : ℕ
unfolding is_work work_in
bound_open = 0

-- "After an accepted begin and up to the next accepted finish": `mid` follows an accepted begin, and no finish in it is accepted. Whatever else
-- stands in it, "in any order", and wherever it ends.
pub record InCycle (rule : Placing) (w : ℕ) (ws : List ℕ) (bs : List Lent) (mid : List Event) : Type 0 where
  pub before : List Event
  pub begun : Event
  pub behind : List Event
  pub parted : history rule w ws bs ≡ before ++ (begun ∷ (mid ++ behind))
  pub is_begin : Accepted begin begun
  pub none_finish : (e : Event) → Memᴰ e mid → Accepted finish e → ⊥

-- at most n "trace and clean steps are accepted"
pub record WorkBound (n : ℕ) (rule : Placing) (w : ℕ) (ws : List ℕ) (bs : List Lent) : Type 0 where
  pub at-most : (mid : List Event) → InCycle rule w ws bs mid → work_in mid ≤ n

-- "at most 12 × G"
unfoldable pub at_most : Image → ℕ
at_most m = 12 * granules m

-- the sharper figure: two for each card, and for the G granules twice their four words
unfoldable pub at_most_sharper : Image → ℕ
at_most_sharper m = 8 * granules m + 2 * m.k

abbrev pub CycleBound : Placing → ℕ → List ℕ → List Lent → Type 0
CycleBound rule w ws bs = WorkBound (at_most (parts w ws)) rule w ws bs

abbrev pub SharperBound : Placing → ℕ → List ℕ → List Lent → Type 0
SharperBound rule w ws bs = WorkBound (at_most_sharper (parts w ws)) rule w ws bs
