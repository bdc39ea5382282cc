use mathlib.Core.Path.{◌≡◌, refl}
use native.Mathlib.Decide.{dec_lt}
use native.Mathlib.Omega.{arith}
use Rattle.model.specs.Records.{kind_of}
use Rattle.model.proofs.Rows.{kind_unknown}
use Rattle.request_laws.proofs.KindTryFromUsize.try_from.Goals as goal

pub returns-in_default : goal.returns-in_default
unfolding kind_of
returns-in_default c = elim (dec_lt c.args.n 1) [ yes l ↦ let z : c.args.n ≡ 0 = omega arith in (refl, rw z) | no h ↦ (refl, kind_unknown c.args.n (omega arith)) ]
