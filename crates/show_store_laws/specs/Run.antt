-- The records of a batch by their place, what the first of them do, and what an answer writes.
use Rattle.std.specs.Prelude.{List, ℕ, ◌+◌, ◌*◌, set, take, drop}
use Rattle.model.specs.Base.{table}
use Rattle.model.specs.Image.{Image}
use Rattle.model.specs.Records.{Step, record_bytes, step_of}
use Rattle.model.specs.Mutate.{tightest}
use Rattle.model.specs.Steps.{Done, Event, run}
use Rattle.model.specs.Batch.{Batch}

-- record i of the step bytes, with words of w bits
unfoldable pub record_at : ℕ → List ℕ → ℕ → Step
record_at w bytes i = step_of w (take (record_bytes w) (drop (record_bytes w * i) bytes))

-- the first n records, run
unfoldable pub ran : ℕ → Image → List ℕ → ℕ → List Event
ran w m bytes n = run tightest m (table n (record_at w bytes))

-- the answer words with the two of record i written
unfoldable pub written_at : List ℕ → ℕ → Done → List ℕ
written_at answers i d = set (set answers (2 * i) d.number) (2 * i + 1) d.value

-- what a batch returns and leaves, as the model's record
abbrev pub batched : ℕ → List ℕ → List ℕ → Batch
batched r image answers = record { result = r; image = image; answers = answers }
