-- Words held to bounds, all of a list at once.
use Rattle.std.specs.Prelude.{Bool, List, [], ◌∷◌, ℕ, leb, ltb, length}
use Rattle.model.specs.Base.{nth, all, every, some}

unfoldable pub between : List ℕ → List ℕ → List ℕ → ℕ → Bool
between low high ws i = every (leb (nth low i) (nth ws i) ∷ leb (nth ws i) (nth high i) ∷ [])

-- each word lies between those of the other lists at its place
unfoldable pub within : List ℕ → List ℕ → List ℕ → Bool
within low high ws = all (length ws) (between low high ws)

unfoldable pub near_at : ℕ → ℕ → List ℕ → ℕ → Bool
near_at from end ws i = some (leb (nth ws i) 2 ∷ every (leb from (nth ws i) ∷ ltb (nth ws i) end ∷ []) ∷ [])

-- each word is at most 2, or not below `from` and below `end`
unfoldable pub near : ℕ → ℕ → List ℕ → Bool
near from end ws = all (length ws) (near_at from end ws)
