-- "A map for the service sheet", document 02, (iii): the store printed, a line for each card. A sign is a function of its granule.
use Rattle.std.specs.Prelude.{Bool, not, cond, ◌&&◌, List, [], ◌∷◌, ◌++◌, ℕ, zero, suc, ◌+◌, ◌*◌, ◌/◌, ◌%◌, ltb, eqb, length}
use Rattle.model.specs.Base.{any, some, first, table}
use Rattle.model.specs.Image.{Image, is_start, marked, size, state, fits, cards_of, parts, join}
use Rattle.model.specs.Undamaged.{undamaged}

-- ---- characters

-- a space and a line end
abbrev pub space_char : ℕ
space_char = 32

abbrev pub line_end : ℕ
line_end = 10

-- the digit of n that is worth p; character 48 is 0
unfoldable pub decimal : ℕ → ℕ → ℕ
decimal n p = 48 + n / p % 10

-- ---- a sign

-- granule g is in an object: one that starts at g or below and ends behind g
unfoldable pub in_object : Image → ℕ → Bool
in_object m g = any (suc g) (λ s. is_start m s && ltb g (s + size m s))

-- "A sign is `.` for free or granule 0, `o` for an unmarked start, `#` for a marked start, `-` for the rest of an object": characters 46, 111, 35
-- and 45, by three tests of a granule, that it is a start, that it is marked, that it is in an object. Free granules and granule 0 are in none.
unfoldable pub sign_of : Bool → Bool → Bool → ℕ
sign_of start mark inside = cond start (cond mark 35 111) (cond inside 45 46)

-- the sign of granule g
unfoldable pub sign : Image → ℕ → ℕ
sign m g = sign_of (is_start m g) (marked m g) (in_object m g)

-- ---- lines

-- "the card number from 0 in four digits, a space, its state digit, a space": card c in state s
unfoldable pub heading : ℕ → ℕ → List ℕ
heading c s = decimal c 1000 ∷ decimal c 100 ∷ decimal c 10 ∷ decimal c 1 ∷ space_char ∷ decimal s 1 ∷ space_char ∷ []

-- "Each card is one line of 72 characters and a line end: [the heading], then 64 signs, and one space at the end."
unfoldable pub card_line : Image → ℕ → List ℕ
card_line m c = heading c (state m c) ++ (table 64 (λ i. sign m (64 * c + i)) ++ (space_char ∷ line_end ∷ []))

-- the lines of all cards, from card 0 on
unfoldable pub map_lines : Image → List ℕ
map_lines m = join (table m.k (card_line m))

-- ---- the call

-- what a call returns and leaves: its result, and the bytes of the output at exit
pub record Mapped : Type 0 where
  pub result : ℕ
  pub output : List ℕ

-- 1 misfit: the image's length, or "a lent output of another length than 73 bytes a line"
unfoldable pub map_misfit : ℕ → List ℕ → List ℕ → Bool
map_misfit w ws output = some (not (fits w (length ws)) ∷ not (eqb (length output) (73 * cards_of w (length ws))) ∷ [])

-- "Checks: 1 and 2, as for a batch": the lower of the two is given; 0 if neither applies
unfoldable pub map_number : ℕ → List ℕ → List ℕ → ℕ
map_number w ws output = first 1 (map_misfit w ws output ∷ not (undamaged (parts w ws)) ∷ [])

-- "A lent output of another length [..], or a bad image, leaves it unwritten."
unfoldable pub map_with : ℕ → List ℕ → List ℕ → ℕ → Mapped
map_with w ws output (suc r) = record { result = suc r; output = output }
map_with w ws output zero = record { result = 0; output = map_lines (parts w ws) }

-- a call, with words of w bits
unfoldable pub map_at : ℕ → List ℕ → List ℕ → Mapped
map_at w ws output = map_with w ws output (map_number w ws output)

-- the store of 16-bit words
unfoldable pub map_of : List ℕ → List ℕ → Mapped
map_of = map_at 16

-- opens all of these
unfoldable pub map_open : ℕ
unfolding decimal in_object sign_of sign heading card_line map_lines map_misfit map_number map_with map_at map_of
map_open = 0
