-- What a list of batches runs, lists of events that are linked, and the facts of one step from which the claim over whole histories follows.
use Rattle.std.specs.Prelude.{◌≡◌, Bool, not, cond, List, [], ◌∷◌, ◌++◌, ℕ, ◌*◌, ◌/◌, ◌%◌, eqb, length}
use Rattle.model.specs.Base.{some}
use Rattle.model.specs.Image.{Image}
use Rattle.model.specs.Records.{Step, record_bytes, records}
use Rattle.model.specs.Finish.{kept_set, finish_step}
use Rattle.model.specs.Mutate.{Placing}
use Rattle.model.specs.Steps.{Event, step}
use Rattle.model.specs.Claim.{Lent}
use Rattle.theory.specs.Cover.{Cover}
use Rattle.theory.specs.Cycle.{Facts}
use Rattle.theory.specs.New.{NewLeaves}
use Rattle.theory.specs.Finish.{FinishMade}

-- ---- what a list of batches runs

-- the bytes and the answers of a batch do not fit each other
unfoldable pub bad_lengths : ℕ → Lent → Bool
bad_lengths w b = some (not (eqb (length b.steps % record_bytes w) 0) ∷ not (eqb (length b.answers) (2 * (length b.steps / record_bytes w))) ∷ [])

-- the records of the batches that are run
unfoldable pub records_run : ℕ → List Lent → List Step
records_run w [] = []
records_run w (b ∷ bs) = cond (bad_lengths w b) [] (records w b.steps) ++ records_run w bs

-- the results of all of them
unfoldable pub call_results : ℕ → List Lent → List ℕ
call_results w [] = []
call_results w (b ∷ bs) = cond (bad_lengths w b) 1 0 ∷ call_results w bs

-- ---- linked events

-- events from image m to image n: each got the image that the one before left
pub data Successive (rule : Placing) : Image → List Event → Image → Type 0 where
  l_nil : {m : Image} → Successive rule m [] m
  l_cons : {m n : Image} {es : List Event} (e : Event) → e.got ≡ m → e.done ≡ step rule e.got e.request
      → Successive rule e.done.image es n → Successive rule m (e ∷ es) n

-- events linked in two parts
pub record Parted (rule : Placing) (m : Image) (es fs : List Event) (n : Image) : Type 0 where
  pub middle : Image
  pub first_part : Successive rule m es middle
  pub second_part : Successive rule middle fs n

-- ---- facts of one step, for images that are in order

pub record Steady (rule : Placing) (Ok : Image → Type 0) : Type 0 where
  pub step_ok : (m : Image) (s : Step) → Ok m → Ok (step rule m s).image
  pub facts : (m : Image) → Ok m → Facts m
  pub covers : (m : Image) → Ok m → Cover m
  pub new_leaves : (m : Image) (s : Step) → Ok m → NewLeaves rule m s
  pub swept : (m : Image) → Ok m → FinishMade m (kept_set m) (finish_step m)

-- an event that got an image in order
pub record Fine (rule : Placing) (Ok : Image → Type 0) (e : Event) : Type 0 where
  pub got_ok : Ok e.got
  pub is_step : e.done ≡ step rule e.got e.request
