use Rattle.std.proofs.Common.{◌≡◌, ◌⊎◌, ℕ, ◌<◌, refl, true, eqb, arith}
use Rattle.model.specs.Base.{all}
use Rattle.model.specs.Records.{kind_of}
use Rattle.theory.specs.Fields.{bound_at}
use Rattle.image_laws.proofs.Places.{by_width}
use Rattle.request_laws.specs.Request.{role_digit, role_limit, tables_open}
use Rattle.request_laws.proofs.Tables.{limit_at}
use Rattle.field_tables.proofs.tables.limit.Goals as goal

-- the table t is right for field i where words have w bits
abbrev Right : ℕ → ℕ → ℕ → Type 0
Right t i w = all 16 (λ n. eqb (role_limit w (role_digit t n)) (bound_at w (kind_of n) i)) ≡ true

module _ {w : ℕ} (o : (w ≡ 16) ⊎ (w ≡ 32)) {n : ℕ} (h : n < 16) (i j : ℕ) (q : j ≡ i) (t : ℕ) {r : ℕ} (f : r ≡ role_limit w (role_digit t n)) where
  limited : Right t i 16 → Right t i 32 → r ≡ bound_at w (kind_of n) j
  limited a b = limit_at n h i j q w t r f (by_width (Right t i) a b o)

pub returns-in-0 : goal.returns-in-0
unfolding tables_open
returns-in-0 g c = limited g.met.W.Word.laws.one_of_two c.requires.0 0 c.args.i c.in-0.is _ c.limit_by.ensures refl refl

pub returns-in-1 : goal.returns-in-1
unfolding tables_open
returns-in-1 g c = limited g.met.W.Word.laws.one_of_two c.requires.0 1 c.args.i c.in-1.is _ c.limit_by-in-1.ensures refl refl

pub returns-in-2 : goal.returns-in-2
unfolding tables_open
returns-in-2 g c = limited g.met.W.Word.laws.one_of_two c.requires.0 2 c.args.i c.in-2.is _ c.limit_by-in-2.ensures refl refl

pub returns-in_default : goal.returns-in_default
unfolding tables_open
returns-in_default g c = limited g.met.W.Word.laws.one_of_two c.requires.0 3 c.args.i (omega arith) _ c.limit_by-in_default.ensures refl refl
