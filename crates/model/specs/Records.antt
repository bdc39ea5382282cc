-- Step records: their bytes, fields and kinds.
use Rattle.std.specs.Prelude.{List, [], ◌∷◌, ℕ, ◌+◌, ◌*◌, ◌/◌, length, get_or, take, drop}
use Rattle.model.specs.Base.{nth, table}

-- "Steps come as records of 8 bytes with no header: kind, player (kinds 1 to 8) or tracer (10 to 12), then a, b, c, 16 bits each, low byte first."
-- Document 02, (ix), of the wide store: "Its step records have 16 bytes: kind, player or tracer, two zero bytes, then a, b, c of 32 bits, low byte
-- first". `zeros` is the number that the zero bytes make.
pub record Step : Type 0 where
  pub kind : ℕ
  pub who : ℕ
  pub zeros : ℕ
  pub a : ℕ
  pub b : ℕ
  pub c : ℕ

-- a number from its bytes, the low byte first
unfoldable pub little : List ℕ → ℕ
little [] = 0
little (x ∷ xs) = x + 256 * little xs

-- A record is four words of w bits. The first holds kind, player or tracer, and the zero bytes, of which a word of 16 bits has none.
unfoldable pub record_bytes : ℕ → ℕ
record_bytes w = w / 2

unfoldable pub step_of : ℕ → List ℕ → Step
step_of w bs =
    let n : ℕ = w / 8 in
    record {
      kind = nth bs 0;
      who = nth bs 1;
      zeros = little (drop 2 (take n bs));
      a = little (take n (drop n bs));
      b = little (take n (drop (2 * n) bs));
      c = little (take n (drop (3 * n) bs));
    }

-- the records of a list of bytes, a part record at the end left out
unfoldable pub records : ℕ → List ℕ → List Step
records w bs = table (length bs / record_bytes w) (λ i. step_of w (take (record_bytes w) (drop (record_bytes w * i) bs)))

-- Document 01's kinds 1 to 14 in order, and document 02's kind 15; `hand_over` is its "hand", `drop_reg` its "drop", `is_due` its "due".
pub data Kind : Type 0 where
  new load store barrier hand_over drop_reg read write begin scan trace clean finish is_due undirty unknown : Kind

unfoldable pub kind_of : ℕ → Kind
kind_of n = get_or (unknown ∷ new ∷ load ∷ store ∷ barrier ∷ hand_over ∷ drop_reg ∷ read ∷ write ∷ begin ∷ scan ∷ trace ∷ clean ∷ finish ∷ is_due ∷ undirty ∷ []) n unknown

-- opens all of these
unfoldable pub records_open : ℕ
unfolding little record_bytes step_of records kind_of
records_open = 0
