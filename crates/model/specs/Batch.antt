-- Calls: fresh, judge, batch and the finish alone on words, at the width of 16 bits and at any.
use Rattle.std.specs.Prelude.{Bool, not, List, [], ◌∷◌, ℕ, zero, suc, ◌*◌, ◌/◌, ◌%◌, eqb, length}
use Rattle.model.specs.Base.{some, first}
use Rattle.model.specs.Image.{fits, parts, words}
use Rattle.model.specs.Undamaged.{undamaged, Made, fresh_at, judge_at}
use Rattle.model.specs.Records.{record_bytes, records}
use Rattle.model.specs.Mutate.{Placing, tightest}
use Rattle.model.specs.Finish.{Finish, finish_step}
use Rattle.model.specs.Steps.{Event, run, after, answers_of}

-- what a batch returns and leaves: its result, and the words of the image and the answer space at exit
pub record Batch : Type 0 where
  pub result : ℕ
  pub image : List ℕ
  pub answers : List ℕ

-- 1 misfit: "image length; step bytes not a multiple of 8; answers not two words a step"; document 02, (ix): "1 follows the new formula and the 16-byte
-- record"
unfoldable pub misfit : ℕ → List ℕ → List ℕ → List ℕ → Bool
misfit w ws bytes answers =
    some
    (not (fits w (length ws))
    ∷ not (eqb (length bytes % record_bytes w) 0)
    ∷ not (eqb (length answers) (2 * (length bytes / record_bytes w)))
    ∷ [])

-- 2 damaged: "image not undamaged". The lower of the two is given; 0 if neither applies.
unfoldable pub call_number : ℕ → List ℕ → List ℕ → List ℕ → ℕ
call_number w ws bytes answers = first 1 (misfit w ws bytes answers ∷ not (undamaged (parts w ws)) ∷ [])

-- the records of the bytes, run on the image
unfoldable pub events : Placing → ℕ → List ℕ → List ℕ → List Event
events rule w ws bytes = run rule (parts w ws) (records w bytes)

-- "1 and 2 refuse the call, are its result (0 otherwise) and leave image and answers alone"
unfoldable pub batch_with : Placing → ℕ → List ℕ → List ℕ → List ℕ → ℕ → Batch
batch_with rule w ws bytes answers (suc r) = record { result = suc r; image = ws; answers = answers }
batch_with rule w ws bytes answers zero =
    let es : List Event = events rule w ws bytes in
    record { result = 0; image = words (after (parts w ws) es); answers = answers_of es }

unfoldable pub batch_at : Placing → ℕ → List ℕ → List ℕ → List ℕ → Batch
batch_at rule w ws bytes answers = batch_with rule w ws bytes answers (call_number w ws bytes answers)

-- the finish alone: "proved equal to this rule also on images that are undamaged but for Cover"
pub record Finished : Type 0 where
  pub value : ℕ
  pub image : List ℕ

unfoldable pub finish_at : ℕ → List ℕ → Finished
finish_at w ws = let f : Finish = finish_step (parts w ws) in record { value = f.value; image = words f.image }

-- ---- the store of 16-bit words; document 02, (ix), "a wide store of 32-bit words, to be made, judged and run in batches, no more", has `fresh_at`,
-- `judge_at` and `batch_at` at 32

unfoldable pub fresh_of : List ℕ → Made
fresh_of = fresh_at 16

unfoldable pub judge_of : List ℕ → ℕ
judge_of = judge_at 16

-- document 02, (v): "New shall use the start of the shortest run that suffices, the lowest of equals."
unfoldable pub batch_of : List ℕ → List ℕ → List ℕ → Batch
batch_of = batch_at tightest 16

unfoldable pub finish_of : List ℕ → Finished
finish_of = finish_at 16

-- opens all of these
unfoldable pub batch_open : ℕ
unfolding misfit call_number events batch_with batch_at finish_at fresh_of judge_of batch_of finish_of
batch_open = 0
