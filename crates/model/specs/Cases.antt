-- The cases that document 01 marks to be proved, as rows of one table: what is computed, and what the documents say of it.
use Rattle.std.specs.Prelude.{List, [], ◌∷◌, ◌++◌, ℕ, ◌*◌, ◌/◌, ◌%◌, length, replicate}
use Rattle.model.specs.Image.{image_length}
use Rattle.model.specs.Batch.{Batch, fresh_of, judge_of, batch_of}

-- a record: kind, player or tracer, a, b, c
unfoldable pub rec : ℕ → ℕ → ℕ → ℕ → ℕ → List ℕ
rec kind who a b c = kind ∷ who ∷ a % 256 ∷ a / 256 ∷ b % 256 ∷ b / 256 ∷ c % 256 ∷ c / 256 ∷ []

unfoldable pub bytes : List (List ℕ) → List ℕ
bytes [] = []
bytes (r ∷ rs) = r ++ bytes rs

-- a fresh store of one card
unfoldable pub one_card : List ℕ
one_card = (fresh_of (replicate (image_length 16 1) 7)).image

-- result and answers of a batch on it
unfoldable pub answered : List (List ℕ) → List ℕ
answered rs = let r : Batch = batch_of one_card (bytes rs) (replicate (2 * length rs) 7) in r.result ∷ r.answers

pub record Row : Type 0 where
  pub computed : List ℕ
  pub said : List ℕ

-- an answer that is accepted, with its value; one that is refused
unfoldable pub ok : ℕ → List ℕ
ok v = 0 ∷ v ∷ []

unfoldable pub refused : ℕ → List ℕ
refused n = n ∷ 0 ∷ []

-- the batch is taken, and these are its answers
unfoldable pub row : List (List ℕ) → List (List ℕ) → Row
row rs answers = record { computed = answered rs; said = 0 ∷ bytes answers }

-- "M = 1 in r0 links to A = 3, O = 2 in r1, A in no register. Begin, scan by tracer 0, trace three times: O is done, M waits.
-- Load r2 from M, store it in O"
unfoldable pub moved : List (List ℕ)
moved =
    rec 1 0 0 1 1 ∷ rec 1 0 1 1 1 ∷ rec 1 0 2 1 1 ∷ rec 3 0 0 0 2 ∷ rec 4 0 0 0 0 ∷ rec 6 0 2 0 0
    ∷ rec 9 0 0 0 0 ∷ rec 10 0 0 0 0 ∷ rec 11 0 0 0 0 ∷ rec 11 0 0 0 0 ∷ rec 11 0 0 0 0
    ∷ rec 2 0 2 0 0 ∷ rec 3 0 1 0 2 ∷ []

unfoldable pub moved_said : List (List ℕ)
moved_said =
    ok 1 ∷ ok 2 ∷ ok 3 ∷ ok 0 ∷ ok 0 ∷ ok 0
    ∷ ok 0 ∷ ok 0 ∷ ok 0 ∷ ok 0 ∷ ok 0
    ∷ ok 3 ∷ ok 0 ∷ []

unfoldable pub cases : List Row
cases =
    -- "k = 1: new b = 63, c = 250 is accepted with value 1; c = 251 gives 8; b = 64 gives 9."
    row (rec 1 0 0 63 250 ∷ []) (ok 1 ∷ [])
    ∷ row (rec 1 0 0 63 251 ∷ []) (refused 8 ∷ [])
    ∷ row (rec 1 0 0 64 0 ∷ []) (refused 9 ∷ [])
    -- "b = 1,024 on k = 1 gives 9, b = 1,025 gives 8, b = 0 gives 8."
    ∷ row (rec 1 0 0 1024 0 ∷ rec 1 0 0 1025 0 ∷ rec 1 0 0 0 0 ∷ []) (refused 9 ∷ refused 8 ∷ refused 8 ∷ [])
    -- document 02, (ii): "of the cases, 1649 is now misfit and 1650 fits"
    ∷ record { computed = judge_of (replicate 1649 0) ∷ judge_of (fresh_of (replicate 1650 0)).image ∷ []; said = 1 ∷ 0 ∷ [] }
    -- "New, drop, begin, finish: value 1; the next new of 1 is again granule 1."
    ∷ row (rec 1 0 0 1 0 ∷ rec 6 0 0 0 0 ∷ rec 9 0 0 0 0 ∷ rec 13 0 0 0 0 ∷ rec 1 0 0 1 0 ∷ []) (ok 1 ∷ ok 0 ∷ ok 0 ∷ ok 1 ∷ ok 1 ∷ [])
    -- "New, begin, scan, drop, finish: 0. Begin, finish: 1."
    ∷ row (rec 1 0 0 1 0 ∷ rec 9 0 0 0 0 ∷ rec 10 0 0 0 0 ∷ rec 6 0 0 0 0 ∷ rec 13 0 0 0 0 ∷ rec 9 0 0 0 0 ∷ rec 13 0 0 0 0 ∷ [])
    (ok 1 ∷ ok 0 ∷ ok 0 ∷ ok 0 ∷ ok 0 ∷ ok 0 ∷ ok 1 ∷ [])
    -- "Begin, new, drop, finish: 1."
    ∷ row (rec 9 0 0 0 0 ∷ rec 1 0 0 1 0 ∷ rec 6 0 0 0 0 ∷ rec 13 0 0 0 0 ∷ []) (ok 0 ∷ ok 1 ∷ ok 0 ∷ ok 1 ∷ [])
    -- ".. store it in O, barrier, store nil in M, barrier, drop r2, finish: 0."
    ∷ row (moved ++ (rec 4 0 0 0 0 ∷ rec 3 0 0 0 3 ∷ rec 4 0 0 0 0 ∷ rec 6 0 2 0 0 ∷ rec 13 0 0 0 0 ∷ [])) (moved_said ++ (ok 0 ∷ ok 0 ∷ ok 0 ∷ ok 0 ∷ ok 0 ∷ []))
    -- "The same ended after the store in O, barrier unpaid: 0."
    ∷ row (moved ++ (rec 13 0 0 0 0 ∷ [])) (moved_said ++ (ok 0 ∷ []))
    -- "Player 1 handing into player 0's r2 while player 0 owes: 5."
    ∷ row (rec 1 0 0 1 1 ∷ rec 3 0 0 0 0 ∷ rec 5 1 0 0 2 ∷ []) (ok 1 ∷ ok 0 ∷ refused 5 ∷ [])
    -- "Barrier with register fields not 0: 3. Drop of register 16 while owing: 4."
    ∷ row (rec 1 0 0 1 1 ∷ rec 3 0 0 0 0 ∷ rec 4 0 1 0 0 ∷ rec 6 0 16 0 0 ∷ []) (ok 1 ∷ ok 0 ∷ refused 3 ∷ refused 4 ∷ [])
    ∷ []

-- opens the table
unfoldable pub cases_open : ℕ
unfolding rec bytes one_card answered ok refused row moved moved_said cases
cases_open = 0
