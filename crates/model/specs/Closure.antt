-- The least set of numbers below a bound that holds given ones and is closed under a finite relation: as a list of Bools, computed in rounds.
use Rattle.std.specs.Prelude.{Bool, true, false, cond, List, [], ◌∷◌, ℕ, zero, suc, leb, get_or, set, replicate}

unfoldable pub add_all : List ℕ → List Bool → List Bool
add_all [] s = s
add_all (g ∷ gs) s = add_all gs (set s g true)

-- from each member below n what f follows is added
unfoldable pub round : (ℕ → List ℕ) → ℕ → List Bool → List Bool
round f zero s = s
round f (suc n) s = let r = round f n s in cond (get_or r n false) (add_all (f n) r) r

-- the number of members
unfoldable pub members : List Bool → ℕ
members [] = 0
members (true ∷ s) = suc (members s)
members (false ∷ s) = members s

-- rounds until one adds nothing, at most j
unfoldable pub closure : (ℕ → List ℕ) → ℕ → ℕ → List Bool → List Bool
closure f n zero s = s
closure f n (suc j) s = let r = round f n s in elim (leb (members r) (members s)) [ true ↦ s | false ↦ closure f n j r ]

-- the least set below n with the members of l, closed under f
unfoldable pub reached : ℕ → (ℕ → List ℕ) → List ℕ → List Bool
reached n f l = closure f n n (add_all l (replicate n false))

-- opens all of these
unfoldable pub closure_open : ℕ
unfolding add_all round members closure reached
closure_open = 0
