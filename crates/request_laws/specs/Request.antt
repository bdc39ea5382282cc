-- A request as the model's record, the range of its fields, and what numbers 3 to 5 say of a record.
use Rattle.std.specs.Prelude.{Bool, true, false, ◌&&◌, Result, Ok, Err, ℕ, zero, suc, ◌*◌, ◌/◌, ◌%◌, ◌^◌, ◌<◌}
use Rattle.model.specs.Base.{all, test_bit}
use Rattle.model.specs.Image.{Image}
use Rattle.model.specs.Records.{Step, kind_of}
use Rattle.model.specs.Records as model
use Rattle.model.specs.Rows.{row_of, is_player}
use Rattle.model.specs.Steps.{unnamed, off_desk, owing}
use Rattle.theory.specs.Fields.{role_at, bound_at}
use Rattle.request_laws.specs.declared.Request.{Request}
use Rattle.request_laws.specs.declared.Kind.{Kind}
use Rattle.request_laws.specs.declared.Refusal.{Refusal}
use Rattle.request_laws.specs.declared.Refusal.TheVariants.{Unknown, OffDesk, Owing}

unfoldable pub requested : Request → Step
requested r = record { kind = r.kind; who = r.who; zeros = r.zeros; a = r.a; b = r.b; c = r.c }

-- each field of its step is a word of w bits
pub record InRange (w : ℕ) (r : Request) : Type 0 where
  pub who_small : r.who < 2 ^ w
  pub a_small : r.a < 2 ^ w
  pub b_small : r.b < 2 ^ w
  pub c_small : r.c < 2 ^ w

-- by the tests of numbers 3, 4 and 5, in this order
unfoldable pub admission_by : Bool → Bool → Bool → Result (Unit {0}) Refusal
admission_by true off owes = Err Unknown
admission_by false true owes = Err OffDesk
admission_by false false true = Err Owing
admission_by false false false = Ok tt

unfoldable pub admission_of : Image → Step → Result (Unit {0}) Refusal
admission_of m s =
    let n : model.Kind = kind_of s.kind in
    admission_by (unnamed s n) (off_desk s m.k n) (owing m s n)

-- what is granted to a kind
abbrev pub granted : Result Kind Refusal → Result (Unit {0}) Refusal
granted (Ok kind) = Ok tt
granted (Err e) = Err e

-- field i of kind n is a player who must owe nothing
unfoldable pub asks_debt : model.Kind → ℕ → Bool
unfolding row_of is_player role_at
asks_debt n i = (row_of n).unowing && is_player (role_at n i)

-- ---- tables of roles in one number, two bits a kind

-- the two bits of kind n
unfoldable pub role_digit : ℕ → ℕ → ℕ
role_digit t n = t / 2 ^ (2 * n) % 4

-- what a field stays below by its two bits: not named, a player or a register, a tracer, any number of w bits (a card too)
unfoldable pub role_limit : ℕ → ℕ → ℕ
role_limit w zero = 0
role_limit w (suc zero) = 16
role_limit w (suc (suc zero)) = 8
role_limit w (suc (suc (suc d))) = 2 ^ w

-- opens what computes such tables
unfoldable pub tables_open : ℕ
unfolding all test_bit kind_of bound_at asks_debt role_digit role_limit
tables_open = 0
