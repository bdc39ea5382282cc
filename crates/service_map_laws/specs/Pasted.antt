-- Bytes written into a list, one behind the other.
use Rattle.std.specs.Prelude.{List, [], ◌∷◌, ℕ, suc, set}

-- the list with these bytes from place `at` on
unfoldable pub pasted : List ℕ → ℕ → List ℕ → List ℕ
pasted out at [] = out
pasted out at (b ∷ bs) = pasted (set out at b) (suc at) bs
