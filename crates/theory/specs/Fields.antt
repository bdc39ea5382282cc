-- The four fields of a record by their place, and their limits as code has them: 0 for an unused field, 2 ^ w for one that may be any number.
use Rattle.std.specs.Prelude.{Bool, true, false, ◌&&◌, [], ◌∷◌, ℕ, ◌^◌, leb, ltb, get_or}
use Rattle.model.specs.Base.{nth, some}
use Rattle.model.specs.Records.{Step, Kind}
use Rattle.model.specs.Rows.{Role, unused, player, tracer, register, card, number, KindRow, row_of, fields}

-- field i: who, a, b or c
unfoldable pub field_at : Step → ℕ → ℕ
unfolding nth
field_at s i = nth (s.who ∷ s.a ∷ s.b ∷ s.c ∷ []) i

unfoldable pub role_at : Kind → ℕ → Role
unfolding row_of
role_at n i = let r : KindRow = row_of n in get_or (r.who ∷ r.a ∷ r.b ∷ r.c ∷ []) i number

-- With words of w bits. A field that names a card may be any number here: how many cards there are is asked for apart (`no_card`).
unfoldable pub bound : ℕ → Role → ℕ
bound w unused = 0
bound w player = 16
bound w tracer = 8
bound w register = 16
bound w card = 2 ^ w
bound w number = 2 ^ w

unfoldable pub bound_at : ℕ → Kind → ℕ → ℕ
unfolding bound role_at
bound_at w n i = bound w (role_at n i)

unfoldable pub is_card : Role → Bool
is_card unused = false
is_card player = false
is_card tracer = false
is_card register = false
is_card card = true
is_card number = false

-- number 4 in two parts: some field is not below its limit, or names a card that there is not among k
unfoldable pub beyond_limit : ℕ → Step → Kind → Bool
unfolding bound fields
beyond_limit w s n = some (fields s (λ r x. ltb 0 (bound w r) && leb (bound w r) x) (row_of n))

unfoldable pub no_card : ℕ → Step → Kind → Bool
unfolding is_card fields
no_card k s n = some (fields s (λ r x. is_card r && leb k x) (row_of n))
