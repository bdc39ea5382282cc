use Rattle.std.proofs.Common.{◌≡◌, ℕ, Bool}
use Rattle.model.specs.Base.{all}
use Rattle.quantifiers.specs.Tested.{Tests}
use Rattle.quantifiers.proofs.all.Given as goal

abbrev pub invariant-loop-i : goal.invariant-loop-i
invariant-loop-i g l = (p : ℕ → Bool) → Tests (λ i b. g.F.Fn.post l.test (i, tt) b) l.n p → l.ok ≡ all l.i p
