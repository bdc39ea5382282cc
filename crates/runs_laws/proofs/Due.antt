-- Due: its two answers.
use mathlib.Core.Path.{◌≡◌, refl}
use mathlib.Core.Bool.{cond}
use Prim.Native.Nat.{ℕ, ◌≤◌, ◌<◌}
use lib.Dec.{ltb}
use borrow.Author.Tests.{lt-ltb, le-ltb}
use Rattle.model.specs.Image.{Image}
use Rattle.model.specs.Records.{is_due, kind_of}
use Rattle.model.specs.Mutate.{tightest, usable_granules}
use Rattle.model.specs.Steps.{numbers_open, accept, due_value, act, step}
use Rattle.request_laws.specs.Answer.{done, asked}
use Rattle.request_laws.proofs.Numbers.{number_0}

module _ (m : Image) (a usable : ℕ) (f : usable ≡ usable_granules m) where
  due_is : done 0 (cond (ltb usable a) 1 0) m ≡ step tightest m (asked 14 0 a 0 0)
  unfolding numbers_open kind_of accept due_value act asked
  due_is = rw f (number_0 {n = is_due} (record { is_kind = refl; named = refl; on_desk = refl; none_owed = refl }) refl refl refl refl refl refl)

  pub due_yes : usable < a → done 0 1 m ≡ step tightest m (asked 14 0 a 0 0)
  due_yes l = rw (lt-ltb usable a l) at due_is

  pub due_no : a ≤ usable → done 0 0 m ≡ step tightest m (asked 14 0 a 0 0)
  due_no l = rw (le-ltb usable a l) at due_is
